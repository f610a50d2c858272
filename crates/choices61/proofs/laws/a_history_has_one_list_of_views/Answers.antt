use Rattle.choices61.proofs.Again.{views_are_there, one_view}
use Rattle.choices61.proofs.laws.a_history_has_one_list_of_views.Goals as goal

pub returns-clause-some : goal.returns-clause-some
returns-clause-some c = views_are_there

pub returns-clause-one : goal.returns-clause-one
returns-clause-one c = one_view
