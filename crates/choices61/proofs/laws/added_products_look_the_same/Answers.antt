use Rattle.choices61.proofs.Products.{products_look_same}
use Rattle.choices61.proofs.laws.added_products_look_the_same.Goals as goal

pub returns : goal.returns
returns c = products_look_same
