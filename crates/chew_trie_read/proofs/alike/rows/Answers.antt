-- Both read the same row.
use Rattle.std.proofs.Common.{◌<◌, List, length, sym, ap, ◌∙◌, subst}
use Rattle.std.specs.List.{slice_get}
use Rattle.std.proofs.lemmas.Option.{same_Some}
use Rattle.chew_spec_syllable.specs.Row.{Row}
use Rattle.chew_spec_dictionary.specs.System.{rows_of}
use Rattle.chew_trie_read.proofs.alike.rows.Goals as goal

pub row-same-requires : goal.row-same-requires
row-same-requires g c = subst (λ (r : List Row). c.args.i < length (rows_of r c.args.key.now)) c.requires.rows c.requires.there

pub returns-clause-phrase : goal.returns-clause-phrase
returns-clause-phrase g c =
    let e = same_Some _ _ (sym c.row-row.ensures.ok ∙ ap (λ (r : List Row). slice_get (rows_of r c.args.key.now) c.args.i) c.requires.rows ∙ c.row-same.ensures.ok) in
    ap (λ (r : Row). r.phrase) e

pub returns-clause-freq : goal.returns-clause-freq
returns-clause-freq g c =
    let e = same_Some _ _ (sym c.row-row.ensures.ok ∙ ap (λ (r : List Row). slice_get (rows_of r c.args.key.now) c.args.i) c.requires.rows ∙ c.row-same.ensures.ok) in
    ap (λ (r : Row). r.freq) e

pub returns-clause-time : goal.returns-clause-time
returns-clause-time g c =
    let e = same_Some _ _ (sym c.row-row.ensures.ok ∙ ap (λ (r : List Row). slice_get (rows_of r c.args.key.now) c.args.i) c.requires.rows ∙ c.row-same.ensures.ok) in
    ap (λ (r : Row). r.time) e
