use Rattle.std.proofs.Common.{ap, ◌∙◌}
use Rattle.sharefile.specs.Files.{now_bytes}
use Rattle.keyroom.proofs.Working.{put_put}
use Rattle.keyroom.proofs.seal.push_raised.Goals as goal

pub returns : goal.returns
returns c = put_put c.push_put.result _ _ _ _ _ _ (c.as_str.ensures.value ∙ c.in_ok-file.ensures) (c.in_ok-bytes.ensures ∙ ap now_bytes c.raised.ensures) c.push_put.ensures
