-- The first frequency of a hidden pair, and the update of one that is shown, with the greatest of the key that is.
use Rattle.std.proofs.Common.{◌≡◌, ◌-◌, List, max, ap, sym, ◌∙◌, rules}
use Rattle.std.proofs.lemmas.Bool.{cond-true}
use Rattle.chew_spec_syllable.specs.Row.{Row}
use Rattle.chew_spec_dictionary.specs.Dictionary.{first_freq, relearned_freq}
use Rattle.chew_spec_dictionary.specs.HiddenPairs.{is_hidden, shown_rows}
use Rattle.chew_spec_dictionary.specs.System.{peak_of}
use Rattle.chew_spec_layers.specs.Layers.{Layers, dictionary_in}
use Rattle.chew_plain.proofs.Outcomes.{held_next}
use Rattle.chew_layers.specs.Contents.{row_said}
use Rattle.chew_layers.proofs.layers.Layers.held_freq.Goals as goal

pub returns-then-is_hidden-clause-value : goal.returns-then-is_hidden-clause-value
returns-then-is_hidden-clause-value c = λ phrase.
    c.first_freq.ensures.value
    ∙ sym (cond-true (is_hidden (row_said c.args.key.now phrase c.args.said)) (first_freq c.args.orig)
    (relearned_freq (dictionary_in c.args.self.now) (row_said c.args.key.now phrase c.args.said) c.args.orig c.args.peak) (sym (c.if-is_hidden.ensures phrase c.args.said.freq)))

pub returns-clause-value : goal.returns-clause-value
returns-clause-value c = λ phrase.
    let most : c.max-2.result ≡ max (max c.args.orig c.args.peak) c.in_ok-own.own = search rules in
    held_next (dictionary_in c.args.self.now) (row_said c.args.key.now phrase c.args.said) c.args.orig c.args.peak c.in_ok-own.own c.max-2.result c.saturating_sub.result c.next_freq.result
    (sym (c.if-is_hidden.ensures phrase c.args.said.freq))
    (c.in_ok-own.ensures.value ∙ ap (λ (rows : List Row). peak_of (shown_rows rows) c.args.key.now) c.held.ensures)
    most
    (c.saturating_sub.ensures ∙ ap (λ (s : Layers). s.life - c.args.said.time) c.self.view_is)
    c.next_freq.ensures.value
