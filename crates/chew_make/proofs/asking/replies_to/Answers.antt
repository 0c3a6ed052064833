-- The calls were made, and their replies are answers.
use Rattle.std.proofs.Common.{◌≡◌, ◌∙◌, ◌++◌, List, ap, map, subst, sym, true}
use Rattle.std.specs.List.{list_all}
use Rattle.chew_spec_syllable.specs.Row.{is_row}
use Rattle.chew_spec_dictionary.specs.History.{Point}
use Rattle.chew_spec_editor.specs.Alone.{point_after, replies_from}
use Rattle.chew_spec_editor.specs.Answers.{AreAnswers}
use Rattle.chew_spec_editor.specs.Pending.{calls_of}
use Rattle.chew_spec_editor.proofs.Answered.{AreAnswers-alone, point-rows}
use Rattle.chew_plain.specs.Call.{call_of, reply_of}
use Rattle.chew_plain.specs.declared.reply.Reply.{Reply}
use Rattle.chew_make.proofs.Counting.{all_proper}
use Rattle.chew_make.proofs.asking.replies_to.Goals as goal

pub returns-clause-replies : goal.returns-clause-replies
returns-clause-replies c =
    c.in_ok-ask_all.ensures.replies
    ∙ ap (λ (had : List Reply). map reply_of had ++ replies_from c.args.plain.now (map call_of c.calls.result.now)) c.new-replies.ensures.items
    ∙ ap (replies_from c.args.plain.now) c.calls.ensures.value

pub returns-clause-answers : goal.returns-clause-answers
returns-clause-answers c =
    let heard : map reply_of c.ask_all.new.replies.items ≡ replies_from c.args.plain.now (calls_of c.args.pending.now) =
    c.in_ok-ask_all.ensures.replies
    ∙ ap (λ (had : List Reply). map reply_of had ++ replies_from c.args.plain.now (map call_of c.calls.result.now)) c.new-replies.ensures.items
    ∙ ap (replies_from c.args.plain.now) c.calls.ensures.value in
    subst (AreAnswers c.args.pending.now) (sym heard)
    (AreAnswers-alone c.args.plain.now c.args.pending.now c.requires (all_proper c.args.pending.now _ c.calls.ensures.value c.calls.ensures.proper))

pub returns-clause-point : goal.returns-clause-point
returns-clause-point c = c.in_ok-ask_all.ensures.point ∙ ap (point_after c.args.plain.now) c.calls.ensures.value

pub returns-clause-pairs : goal.returns-clause-pairs
returns-clause-pairs c =
    let point : c.ask_all.new.plain ≡ point_after c.args.plain.now (calls_of c.args.pending.now) =
    c.in_ok-ask_all.ensures.point ∙ ap (point_after c.args.plain.now) c.calls.ensures.value in
    subst (λ (p : Point). list_all is_row p.dictionary.pairs ≡ true) (sym point)
    (point-rows c.args.plain.now (calls_of c.args.pending.now) (all_proper c.args.pending.now _ c.calls.ensures.value c.calls.ensures.proper) c.requires)
