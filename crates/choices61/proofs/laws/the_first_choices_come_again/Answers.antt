use Rattle.choices61.proofs.Again.{grids_keep_form, back_again}
use Rattle.choices61.proofs.laws.the_first_choices_come_again.Goals as goal

pub returns-clause-form : goal.returns-clause-form
returns-clause-form c = grids_keep_form

pub returns-clause-back : goal.returns-clause-back
returns-clause-back c = back_again
