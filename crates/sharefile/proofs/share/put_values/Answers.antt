use Rattle.std.proofs.Common.{ℕ, List, ◌++◌, ◌∙◌, ap, append_assoc}
use Rattle.std.specs.List.{flat_map}
use Rattle.sharefile.specs.Files.{lane_bytes, committee_bytes}
use Rattle.sharefile.proofs.share.put_values.Goals as goal

pub returns : goal.returns
returns c =
    let lanes : List ℕ = flat_map lane_bytes c.args.lanes.now in
    let digest : List ℕ = committee_bytes c.args.committee.now in
    c.in_ok-put_committee.ensures ∙ ap (λ (bytes : List ℕ). bytes ++ digest) c.in_ok-put_lanes.ensures ∙ append_assoc _ lanes digest
