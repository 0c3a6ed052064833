-- What is left to append.
use Rattle.chew_script.proofs.generator.«+push_lines».Given as goal

abbrev pub decreases-push_lines : goal.decreases-push_lines
decreases-push_lines l = l.count
