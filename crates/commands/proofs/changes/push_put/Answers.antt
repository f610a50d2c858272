use Rattle.std.proofs.Common.{◌≡◌, ◌∙◌, ap, subst, string_bytes}
use Rattle.sharefile.specs.Files.{Now, share_bytes}
use Rattle.keyroom.specs.Names.{share_name}
use Rattle.commands.proofs.Pushing.{pushed_one, put_same}
use Rattle.commands.proofs.changes.push_put.Goals as goal

pub returns : goal.returns
returns c =
    pushed_one _ _ _ _ c.in_ok-push.ensures.items
    (put_same _ _ _ _
    (subst (λ (f : Now). string_bytes c.in_ok-name.name ≡ share_name f.name f.period c.args.index) c.now.view_is c.in_ok-name.ensures)
    (c.in_ok-bytes.ensures ∙ ap share_bytes c.share_with-file.ensures))
