-- The replies are answers.
use Rattle.chew_replay.proofs.Found.{answers-told}
use Rattle.chew_replay.proofs.typing.typed.Goals as goal

pub finish-requires-clause-answers : goal.finish-requires-clause-answers
finish-requires-clause-answers c =
    answers-told c.in-Ok-Ask.pending c.calls.result.now c.in_ok-replies-in-Ok-Ask.replies.items c.calls.ensures.value c.in_ok-replies-in-Ok-Ask.ensures
