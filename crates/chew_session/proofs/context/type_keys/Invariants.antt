-- The keys so far were handled.
use Rattle.std.proofs.Common.{◌≡◌, take, true}
use Rattle.chew_spec_dictionary.specs.History.{is_legal, start_of}
use Rattle.chew_spec_editor.specs.Invariant.{HasSingles}
use Rattle.chew_script.specs.Keys.{keys_of}
use Rattle.chew_session.specs.Typing.{Talks}
use Rattle.chew_session.proofs.context.type_keys.Given as goal

abbrev pub invariant-loop-key : goal.invariant-loop-key
invariant-loop-key g l = record {
  ours : l.pass.cell ≡ l.shared;
  who : l.pass.who ≡ l.fn.pass.who;
  legal : is_legal (start_of l.shared.start) l.pass.seen ≡ true;
  talks : Talks (record { system = g.L.Lexicon.rows l.system; settings = l.fn.settings; start = start_of l.shared.start }) l.fn.pass.who
      (take l.key-index (keys_of l.actor.keys.items)) l.editor l.pass.seen l.text.items;
  singles : HasSingles (g.L.Lexicon.rows l.system) l.editor.buffer.cells;
  counted : l.handled ≡ l.key-index;
}
