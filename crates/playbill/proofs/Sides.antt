-- The phases of a rehearsal are ones of committees that a command can make.
use Rattle.std.proofs.Common.{◌≡◌, ℕ, true, List, map, sym, subst, arith}
use Rattle.std.specs.Prelude.{All}
use Rattle.sizes.specs.Committees.{is_bound, is_size}
use Rattle.talk.specs.Basics.{places}
use Rattle.scenes.specs.declared.scene.Scene.{Scene}
use Rattle.scenes.specs.Law.{AreSides}
use Rattle.scenes.specs.Scenes.{scene_at}
use Rattle.scenes.proofs.Filling.{scene_there, scenes_count}
use Rattle.scenes.proofs.Sides.{scenes_are}

pub sides_are : (members bound number count : ℕ) (scenes : List Scene) → is_size members ≡ true → is_bound members bound ≡ true → scenes ≡ map (scene_at members bound number) (places count) → All AreSides scenes
sides_are members bound number count scenes size bounded e k d lt =
    subst AreSides (sym (scene_there members bound number count k scenes d e (omega (arith, lt, scenes_count members bound number count scenes e))))
    (scenes_are members bound number k size bounded)
