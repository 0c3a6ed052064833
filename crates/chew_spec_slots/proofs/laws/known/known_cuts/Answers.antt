-- Each value computes.
use Rattle.std.proofs.Common.{refl}
use lib.Utf8.{encode}
use Rattle.std.specs.Str.{chars, is_utf8}
use Rattle.sha2.specs.Sha256.{compress, digest_bytes, first_words, hash_after, rounds, schedule, sha256}
use Rattle.chew_spec_syllable.specs.Phrase.{is_phrase}
use Rattle.chew_spec_image.specs.Fields.{header_bytes, node_at, node_bytes, row_at, row_bytes}
use Rattle.chew_spec_image.specs.Image.{image}
use Rattle.chew_spec_image.specs.Reading.{image_reading}
use Rattle.chew_spec_slots.specs.Reading.{saved_in}
use Rattle.chew_spec_slots.specs.Recovery.{recovered}
use Rattle.chew_spec_slots.specs.Slot.{digest}
use Rattle.chew_spec_slots.proofs.laws.known.known_cuts.Goals as goal

pub returns-clause-shut_plain : goal.returns-clause-shut_plain
unfolding saved_in recovered image image_reading header_bytes node_bytes row_bytes node_at row_at is_phrase is_utf8 chars encode digest first_words schedule rounds compress hash_after digest_bytes sha256
returns-clause-shut_plain c = refl

pub returns-clause-plain : goal.returns-clause-plain
unfolding saved_in recovered image image_reading header_bytes node_bytes row_bytes node_at row_at is_phrase is_utf8 chars encode digest first_words schedule rounds compress hash_after digest_bytes sha256
returns-clause-plain c = refl

pub returns-clause-shut : goal.returns-clause-shut
unfolding saved_in recovered image image_reading header_bytes node_bytes row_bytes node_at row_at is_phrase is_utf8 chars encode digest first_words schedule rounds compress hash_after digest_bytes sha256
returns-clause-shut c = refl

pub returns-clause-cut : goal.returns-clause-cut
unfolding saved_in recovered image image_reading header_bytes node_bytes row_bytes node_at row_at is_phrase is_utf8 chars encode digest first_words schedule rounds compress hash_after digest_bytes sha256
returns-clause-cut c = refl
