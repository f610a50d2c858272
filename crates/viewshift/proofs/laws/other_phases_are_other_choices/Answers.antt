use Rattle.viewshift.proofs.Others.{others_are_course, others_are_history}
use Rattle.viewshift.proofs.laws.other_phases_are_other_choices.Goals as goal

pub returns-clause-course : goal.returns-clause-course
returns-clause-course c = others_are_course

pub returns-clause-history : goal.returns-clause-history
returns-clause-history c = others_are_history
