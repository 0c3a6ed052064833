-- The lemmas of these names.
use Rattle.chew_session.proofs.Handled.{handles-later, handles-whole, handles-within}
use Rattle.chew_session.proofs.laws.what_contexts_handle.Goals as goal

pub returns-clause-later : goal.returns-clause-later
returns-clause-later c = handles-later

pub returns-clause-within : goal.returns-clause-within
returns-clause-within c = handles-within

pub returns-clause-whole : goal.returns-clause-whole
returns-clause-whole c = handles-whole
