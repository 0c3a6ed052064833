-- A phrase has a character for each syllable of its key.
use Rattle.std.proofs.Common.{List, ℕ, ap, chars, length, sym, ◌∙◌}
use Rattle.chew_editor.proofs.LearnSteps.{long-pair}
use Rattle.chew_editor.proofs.learn_calls.pair_of.Goals as goal

pub returns-clause-long : goal.returns-clause-long
returns-clause-long c =
    ap (λ (text : List ℕ). length (chars text)) c.in_ok-phrase.ensures ∙ (long-pair _ _ c.requires.pair ∙ ap length (sym c.key_of-key.ensures))
