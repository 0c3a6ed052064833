-- The row of the key is the one at its place.
use Rattle.std.proofs.Common.{ℕ, List, Some, ap, sym, ◌∙◌, nat_le}
use Rattle.std.proofs.lemmas.Bool.{and_parts, leb-true}
use Rattle.chew_spec_syllable.specs.Row.{Row, greatest_freq, is_pair}
use Rattle.chew_plain.proofs.Together.{its_row, its_row_key, its_row_valid}
use Rattle.chew_plain.proofs.lexicon.Lexicon.row.Goals as goal

pub returns-clause-ok : goal.returns-clause-ok
returns-clause-ok g c =
    its_row (g.Self.Lexicon.rows c.args.self.now) c.args.key.now c.places-places.result.start c.places-places.result.end c.args.i (record { key = c.row_at.ensures.0; phrase = c.row_at.result.phrase.now; freq = c.row_at.result.freq; time = c.row_at.result.time })
    c.places-places.ensures.value c.requires c.row_at.ensures.1
    ∙ ap (λ (k : List ℕ). let row : Row = record { key = k; phrase = c.row_at.result.phrase.now; freq = c.row_at.result.freq; time = c.row_at.result.time } in Some row)
    (its_row_key (g.Self.Lexicon.rows c.args.self.now) c.args.key.now c.places-places.result.start c.places-places.result.end c.args.i (record { key = c.row_at.ensures.0; phrase = c.row_at.result.phrase.now; freq = c.row_at.result.freq; time = c.row_at.result.time })
    c.places-places.ensures.value c.requires c.row_at.ensures.1)

pub returns-clause-valid : goal.returns-clause-valid
returns-clause-valid g c =
    ap (λ (k : List ℕ). is_pair k c.row_at.result.phrase.now) (sym (its_row_key (g.Self.Lexicon.rows c.args.self.now) c.args.key.now c.places-places.result.start c.places-places.result.end c.args.i (record { key = c.row_at.ensures.0; phrase = c.row_at.result.phrase.now; freq = c.row_at.result.freq; time = c.row_at.result.time })
    c.places-places.ensures.value c.requires c.row_at.ensures.1))
    ∙ (and_parts (is_pair c.row_at.ensures.0 c.row_at.result.phrase.now) (nat_le c.row_at.result.freq greatest_freq) (its_row_valid (g.Self.Lexicon.rows c.args.self.now) c.args.key.now c.places-places.result.start c.places-places.result.end c.args.i (record { key = c.row_at.ensures.0; phrase = c.row_at.result.phrase.now; freq = c.row_at.result.freq; time = c.row_at.result.time })
    c.places-places.ensures.value c.requires c.row_at.ensures.1 c.places-places.ensures.each)).0

pub returns-clause-freq : goal.returns-clause-freq
returns-clause-freq g c =
    leb-true c.row_at.result.freq greatest_freq
    (and_parts (is_pair c.row_at.ensures.0 c.row_at.result.phrase.now) (nat_le c.row_at.result.freq greatest_freq) (its_row_valid (g.Self.Lexicon.rows c.args.self.now) c.args.key.now c.places-places.result.start c.places-places.result.end c.args.i (record { key = c.row_at.ensures.0; phrase = c.row_at.result.phrase.now; freq = c.row_at.result.freq; time = c.row_at.result.time })
    c.places-places.ensures.value c.requires c.row_at.ensures.1 c.places-places.ensures.each)).1
