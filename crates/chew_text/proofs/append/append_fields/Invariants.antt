-- The fields so far stand behind the text.
use Rattle.std.proofs.Common.{◌≡◌, ◌≤◌, [], ◌∷◌, ◌++◌, flat_map, take, vec_capacity}
use Rattle.chew_text.proofs.append.append_fields.Given as goal

abbrev pub invariant-loop-field : goal.invariant-loop-field
invariant-loop-field l = record {
  items : l.text.items ≡ l.initial.text.items ++ flat_map (λ field. field.0.now ++ field.1 ∷ []) (take l.field-index l.fields);
  grown : vec_capacity l.initial.text ≤ vec_capacity l.text;
}
