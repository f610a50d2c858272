use Rattle.std.proofs.Common.{◌≡◌, subst, string_bytes}
use Rattle.sharefile.specs.Files.{Now}
use Rattle.keyroom.specs.Names.{now_name}
use Rattle.commands.proofs.Pushing.{pushed_one, put_same}
use Rattle.commands.proofs.changes.push_now.Goals as goal

pub returns : goal.returns
returns c =
    pushed_one _ _ _ _ c.in_ok-push.ensures.items
    (put_same _ _ _ _
    (subst (λ (f : Now). string_bytes c.in_ok-name.name ≡ now_name f.name) c.now.view_is c.in_ok-name.ensures)
    c.in_ok-bytes.ensures)
