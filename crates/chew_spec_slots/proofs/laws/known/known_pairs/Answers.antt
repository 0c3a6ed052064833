-- Each value computes.
use Rattle.std.proofs.Common.{refl}
use lib.Utf8.{encode}
use Rattle.std.specs.Str.{chars, is_utf8}
use Rattle.sha2.specs.Sha256.{compress, digest_bytes, first_words, hash_after, rounds, schedule, sha256}
use Rattle.chew_spec_syllable.specs.Phrase.{is_phrase}
use Rattle.chew_spec_image.specs.Fields.{header_bytes, node_at, node_bytes, row_at, row_bytes}
use Rattle.chew_spec_image.specs.Image.{image}
use Rattle.chew_spec_image.specs.Reading.{image_reading}
use Rattle.chew_spec_slots.specs.Reading.{saved_in}
use Rattle.chew_spec_slots.specs.Recovery.{recovered}
use Rattle.chew_spec_slots.specs.Slot.{digest}
use Rattle.chew_spec_slots.proofs.laws.known.known_pairs.Goals as goal

pub returns-clause-zero : goal.returns-clause-zero
unfolding saved_in recovered image image_reading header_bytes node_bytes row_bytes node_at row_at is_phrase is_utf8 chars encode digest first_words schedule rounds compress hash_after digest_bytes sha256
returns-clause-zero c = refl

pub returns-clause-one : goal.returns-clause-one
unfolding saved_in recovered image image_reading header_bytes node_bytes row_bytes node_at row_at is_phrase is_utf8 chars encode digest first_words schedule rounds compress hash_after digest_bytes sha256
returns-clause-one c = refl

pub returns-clause-equal : goal.returns-clause-equal
unfolding saved_in recovered image image_reading header_bytes node_bytes row_bytes node_at row_at is_phrase is_utf8 chars encode digest first_words schedule rounds compress hash_after digest_bytes sha256
returns-clause-equal c = refl

pub returns-clause-newer : goal.returns-clause-newer
unfolding saved_in recovered image image_reading header_bytes node_bytes row_bytes node_at row_at is_phrase is_utf8 chars encode digest first_words schedule rounds compress hash_after digest_bytes sha256
returns-clause-newer c = refl

pub returns-clause-older : goal.returns-clause-older
unfolding saved_in recovered image image_reading header_bytes node_bytes row_bytes node_at row_at is_phrase is_utf8 chars encode digest first_words schedule rounds compress hash_after digest_bytes sha256
returns-clause-older c = refl

pub returns-clause-second : goal.returns-clause-second
unfolding saved_in recovered image image_reading header_bytes node_bytes row_bytes node_at row_at is_phrase is_utf8 chars encode digest first_words schedule rounds compress hash_after digest_bytes sha256
returns-clause-second c = refl

pub returns-clause-first : goal.returns-clause-first
unfolding saved_in recovered image image_reading header_bytes node_bytes row_bytes node_at row_at is_phrase is_utf8 chars encode digest first_words schedule rounds compress hash_after digest_bytes sha256
returns-clause-first c = refl

pub returns-clause-short : goal.returns-clause-short
unfolding saved_in recovered image image_reading header_bytes node_bytes row_bytes node_at row_at is_phrase is_utf8 chars encode digest first_words schedule rounds compress hash_after digest_bytes sha256
returns-clause-short c = refl
