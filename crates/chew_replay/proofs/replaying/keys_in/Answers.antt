-- The keys of a script are keys that a script can name.
use Rattle.std.proofs.Common.{◌≡◌, ◌<◌, ◌∙◌, List, ap, arith, length, subst, sym, true}
use Rattle.std.specs.List.{list_all}
use Rattle.std.proofs.lemmas.List.{get_or-map, length-map}
use Rattle.chew_spec_dictionary.proofs.Found.{each_of_all}
use Rattle.chew_spec_text.specs.KeyStroke.{KeyStroke, is_key_stroke}
use Rattle.chew_spec_text.specs.Lines.{lines_of}
use Rattle.chew_spec_text.proofs.Script.{bounded, made_by_lines}
use Rattle.chew_script.specs.Keys.{keys_of, lists_of}
use Rattle.chew_replay.proofs.replaying.keys_in.Goals as goal

pub returns : goal.returns
returns c =
    let text = c.as_bytes.result.now in
    let strokes = (bounded 1 c.in-Ok.script (lines_of text) (made_by_lines text c.in-Ok.script c.in-Ok.ensures.ok)).strokes in
    let lists : lists_of c.lists.result.now ≡ c.in-Ok.script.contexts = c.lists.ensures ∙ ap (λ script. script.contexts) c.script.view_is in
    let all : list_all (list_all is_key_stroke) (lists_of c.lists.result.now) ≡ true =
    subst (λ (l : List (List KeyStroke)). list_all (list_all is_key_stroke) l ≡ true) (sym lists) strokes in
    let mine = keys_of c.keys-item.result.items in
    let some = c.in-len1-up.len_at_least in
    let inside : 0 < length c.lists.result.now = omega arith in
    ap (λ keys. list_all is_key_stroke (keys_of keys)) (c.in_ok-from_slice-in-len1-up.ensures.items ∙ c.as_slice.ensures.value)
    ∙ ap (list_all is_key_stroke) (ap (λ keys. keys_of keys.items) c.keys-item.is ∙ sym (get_or-map (λ keys. keys_of keys.items) c.lists.result.now 0 c.keys-item.result mine inside))
    ∙ each_of_all (list_all is_key_stroke) (lists_of c.lists.result.now) 0 mine all (rw length-map inside)
