-- What a turn makes of what a pass has seen.
use Rattle.std.proofs.Common.{◌≡◌, ℕ, List, [], ◌∷◌, ◌++◌, ap, ◌∙◌}
use Rattle.chew_spec_dictionary.specs.Call.{Call, Reply}
use Rattle.chew_spec_dictionary.specs.History.{Entry, after, answer, start_of}
use Rattle.chew_spec_layers.specs.Layers.{Layers}
use Rattle.chew_spec_cell.specs.Pass.{Pass}
use Rattle.chew_spec_cell.specs.Sight.{HasSeen}
use Rattle.chew_spec_shared.specs.SharedCalls.{Asked}

-- what a call made of its pass
pub asked : (pass : Pass) (call : Call) (reply : Reply) (old now : Layers) (by : ℕ) (seen : List Entry) → HasSeen pass.who pass.seen old.journal → by ≡ pass.who → old.start ≡ pass.cell.start
    → now.journal ≡ old.journal ++ record { who = by; call = call } ∷ [] → reply ≡ (answer (after (start_of old.start) old.journal) call).reply
    → seen ≡ now.journal → Asked pass call reply seen
asked pass call reply old now by seen has own start journal told left = record {
  before = old.journal;
  others = has;
  made = left ∙ journal ∙ ap (λ (n : ℕ). old.journal ++ record { who = n; call = call } ∷ []) own;
  answered = told ∙ ap (λ d. (answer (after (start_of d) old.journal) call).reply) start;
}
