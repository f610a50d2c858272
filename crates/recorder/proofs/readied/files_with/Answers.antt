use Rattle.std.proofs.Common.{◌≡◌, ◌+◌, ◌++◌, ◌∷◌, [], ◌<◌, length, get_or, None, ap, ◌∙◌, rules}
use Rattle.std.proofs.lemmas.List.{get_or_default}
use Rattle.rehearsal_laws.specs.Standing.{file_with}
use Rattle.recorder.proofs.Ready.{pushed_file}
use Rattle.recorder.proofs.readied.files_with.Goals as goal

pub loop-place-preserved : goal.loop-place-preserved
loop-place-preserved c =
    let there : c.loop-place.place < length c.args.shares.now = search rules in
    let e : get_or c.args.shares.now c.loop-place.place c.index-shares-place.result ≡ get_or c.args.shares.now c.loop-place.place None = get_or_default c.args.shares.now c.loop-place.place c.index-shares-place.result None there in
    let made : c.file_with.result ≡ file_with c.args.now.now (c.loop-place.place + 1) (get_or c.args.shares.now c.loop-place.place None) =
    c.file_with.ensures ∙ ap (file_with c.args.now.now (c.loop-place.place + 1)) (c.index-shares-place.is ∙ e) in
    let pushed : c.push.new.self.items ≡ c.loop-place.files.items ++ c.file_with.result ∷ [] = search rules in
    pushed ∙ pushed_file c.args.now.now c.args.shares.now c.loop-place.place there c.loop-place.files.items c.file_with.result c.loop-place.invariant made
