-- The replies are answers, and the dictionary's rows stay rows.
use Rattle.std.proofs.Common.{◌≡◌, ◌∙◌, ◌++◌, List, IfOk, Ok, Err, Result, ap, map, subst, sym, true}
use Rattle.std.specs.List.{list_all}
use Rattle.chew_spec_syllable.specs.Row.{is_row}
use Rattle.chew_spec_dictionary.specs.Call.{Call, is_proper}
use Rattle.chew_spec_dictionary.specs.History.{Point, is_user_call}
use Rattle.chew_spec_dictionary.proofs.Legal.{user-proper}
use Rattle.chew_spec_preedit.proofs.Kept.{list_all-weaker}
use Rattle.chew_spec_editor.specs.Alone.{point_after, replies_from}
use Rattle.chew_spec_editor.specs.Answers.{AreAnswers}
use Rattle.chew_spec_editor.specs.Pending.{Pending, calls_of}
use Rattle.chew_spec_editor.proofs.Answered.{AreAnswers-alone, point-rows}
use Rattle.chew_plain.specs.Call.{call_of, reply_of}
use Rattle.chew_plain.specs.declared.reply.Reply.{Reply}
use Rattle.chew_tests_editor.proofs.library.answered.Goals as goal

-- calls that anyone may make are proper
all-proper : (pending : Pending) (made : List Call) → made ≡ calls_of pending → list_all is_user_call made ≡ true → list_all is_proper (calls_of pending) ≡ true
all-proper pending made same users =
    list_all-weaker is_user_call is_proper user-proper (calls_of pending) (subst (λ (calls : List Call). list_all is_user_call calls ≡ true) same users)

pub finish-requires-clause-answers : goal.finish-requires-clause-answers
finish-requires-clause-answers c =
    let pending = c.args.pending in
    let made = c.calls.ensures.value in
    let heard : map reply_of c.answer.new.replies.items ≡ replies_from c.args.user.now (calls_of c.args.pending) =
    c.in_ok-answer.ensures.replies
    ∙ ap (λ (had : List Reply). map reply_of had ++ replies_from c.args.user.now (map call_of c.calls.result.now)) c.new-replies.ensures.items
    ∙ ap (replies_from c.args.user.now) made in
    subst (AreAnswers pending) (sym heard)
    (AreAnswers-alone c.args.user.now pending c.requires.pairs (all-proper pending _ made c.calls.ensures.proper))

-- what holds anyhow holds where there is a value
anyhow : {X F : Type 0} (outcome : Result X F) (P : Type 0) → P → IfOk outcome (λ _. P)
anyhow (Ok value) P holds = holds
anyhow (Err fault) P holds = tt

pub returns-clause-pairs : goal.returns-clause-pairs
returns-clause-pairs c =
    let pending = c.args.pending in
    let made = c.calls.ensures.value in
    let point : c.answer.new.user ≡ point_after c.args.user.now (calls_of c.args.pending) =
    c.in_ok-answer.ensures.point ∙ ap (point_after c.args.user.now) made in
    anyhow c.finish.result (list_all is_row c.answer.new.user.dictionary.pairs ≡ true)
    (subst (λ (p : Point). list_all is_row p.dictionary.pairs ≡ true) (sym point)
    (point-rows c.args.user.now (calls_of pending) (all-proper pending _ made c.calls.ensures.proper) c.requires.pairs))
