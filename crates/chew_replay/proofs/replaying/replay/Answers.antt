-- Each key is one that a script can name.
use Rattle.std.proofs.Common.{◌≡◌, ◌<◌, ◌∙◌, ℕ, List, ap, arith, get_or, length, sym}
use Rattle.std.proofs.lemmas.List.{get_or-map, length-map}
use Rattle.chew_spec_dictionary.proofs.Found.{each_of_all}
use Rattle.chew_spec_text.specs.KeyStroke as spec
use Rattle.chew_spec_text.specs.KeyStroke.{is_key_stroke}
use Rattle.chew_script.specs.Keys.{key_of, keys_of}
use Rattle.chew_script.specs.declared.keystroke.KeyStroke.{KeyStroke}
use Rattle.chew_script.specs.declared.keystroke.KeyStroke.TheVariants.{Char}
use Rattle.chew_replay.proofs.replaying.replay.Goals as goal

pub pressed-requires : goal.pressed-requires
pressed-requires c =
    let keys : List spec.KeyStroke = keys_of c.args.keys.now in
    let i : ℕ = c.loop-key.key-index in
    let key : KeyStroke = get_or c.args.keys.now i (Char 0) in
    let in_code : i < length c.args.keys.now = omega arith in
    ap is_key_stroke (sym (get_or-map key_of c.args.keys.now i (Char 0) (key_of key) in_code))
    ∙ each_of_all is_key_stroke keys i (key_of key) c.requires (rw length-map (omega arith))
