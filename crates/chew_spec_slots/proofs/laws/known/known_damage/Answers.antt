-- Each value computes.
use Rattle.std.proofs.Common.{refl}
use lib.Utf8.{encode}
use Rattle.std.specs.Str.{chars, is_utf8}
use Rattle.sha2.specs.Sha256.{compress, digest_bytes, first_words, hash_after, rounds, schedule, sha256}
use Rattle.chew_spec_syllable.specs.Phrase.{is_phrase}
use Rattle.chew_spec_image.specs.Fields.{header_bytes, node_at, node_bytes, row_at, row_bytes}
use Rattle.chew_spec_image.specs.Image.{image}
use Rattle.chew_spec_image.specs.Reading.{image_reading}
use Rattle.chew_spec_slots.specs.Reading.{saved_in}
use Rattle.chew_spec_slots.specs.Recovery.{recovered}
use Rattle.chew_spec_slots.specs.Slot.{digest}
use Rattle.chew_spec_slots.proofs.laws.known.known_damage.Goals as goal

pub returns-clause-gate : goal.returns-clause-gate
unfolding saved_in recovered image image_reading header_bytes node_bytes row_bytes node_at row_at is_phrase is_utf8 chars encode digest first_words schedule rounds compress hash_after digest_bytes sha256
returns-clause-gate c = refl

pub returns-clause-magic : goal.returns-clause-magic
unfolding saved_in recovered image image_reading header_bytes node_bytes row_bytes node_at row_at is_phrase is_utf8 chars encode digest first_words schedule rounds compress hash_after digest_bytes sha256
returns-clause-magic c = refl

pub returns-clause-seq : goal.returns-clause-seq
unfolding saved_in recovered image image_reading header_bytes node_bytes row_bytes node_at row_at is_phrase is_utf8 chars encode digest first_words schedule rounds compress hash_after digest_bytes sha256
returns-clause-seq c = refl

pub returns-clause-past : goal.returns-clause-past
unfolding saved_in recovered image image_reading header_bytes node_bytes row_bytes node_at row_at is_phrase is_utf8 chars encode digest first_words schedule rounds compress hash_after digest_bytes sha256
returns-clause-past c = refl

pub returns-clause-far_past : goal.returns-clause-far_past
unfolding saved_in recovered image image_reading header_bytes node_bytes row_bytes node_at row_at is_phrase is_utf8 chars encode digest first_words schedule rounds compress hash_after digest_bytes sha256
returns-clause-far_past c = refl

pub returns-clause-image : goal.returns-clause-image
unfolding saved_in recovered image image_reading header_bytes node_bytes row_bytes node_at row_at is_phrase is_utf8 chars encode digest first_words schedule rounds compress hash_after digest_bytes sha256
returns-clause-image c = refl

pub returns-clause-nodes : goal.returns-clause-nodes
unfolding saved_in recovered image image_reading header_bytes node_bytes row_bytes node_at row_at is_phrase is_utf8 chars encode digest first_words schedule rounds compress hash_after digest_bytes sha256
returns-clause-nodes c = refl

pub returns-clause-shorter : goal.returns-clause-shorter
unfolding saved_in recovered image image_reading header_bytes node_bytes row_bytes node_at row_at is_phrase is_utf8 chars encode digest first_words schedule rounds compress hash_after digest_bytes sha256
returns-clause-shorter c = refl

pub returns-clause-sixty : goal.returns-clause-sixty
unfolding saved_in recovered image image_reading header_bytes node_bytes row_bytes node_at row_at is_phrase is_utf8 chars encode digest first_words schedule rounds compress hash_after digest_bytes sha256
returns-clause-sixty c = refl
