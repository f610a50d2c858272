use Rattle.std.proofs.Common.{◌≡◌, subst, sym, ap, ◌∙◌, rules}
use Rattle.sharefile.specs.Files.{IsNow}
use Rattle.commands.specs.Phase.{IsReady, standing_of}
use Rattle.commands.specs.Standing.{seeds_for}
use Rattle.rehearsal_laws.specs.Standing.{now_before, standing_before}
use Rattle.scenes.specs.Scenes.{old_side}
use Rattle.recorder.specs.Begun.{MayGoOn}
use Rattle.recorder.proofs.Ready.{begins, goes_on, ready, seeds_anywhere}
use Rattle.recorder.proofs.readied.readied.Goals as goal

pub returns-clause-ready : goal.returns-clause-ready
returns-clause-ready c =
    let b = begins c.args.place c.args.scene.now c.args.shares.now c.requires.later c.requires.begun in
    let same : standing_of (record { file = c.now_before-file.result; files = c.in_ok-files.files; drill = c.in_ok-drill.drill }) ≡ standing_before c.args.place c.args.scene.now c.args.shares.now = search rules in
    let is_now : IsNow (now_before c.args.place (old_side c.args.scene.now)) = search rules in
    subst IsReady (sym same) (ready c.args.place c.args.scene.now c.args.shares.now c.requires.sides c.requires.told c.requires.later b.1 b.2 is_now)

pub returns-clause-goes : goal.returns-clause-goes
returns-clause-goes c =
    let b = begins c.args.place c.args.scene.now c.args.shares.now c.requires.later c.requires.begun in
    let same : standing_of (record { file = c.now_before-file.result; files = c.in_ok-files.files; drill = c.in_ok-drill.drill }) ≡ standing_before c.args.place c.args.scene.now c.args.shares.now = search rules in
    subst (MayGoOn c.args.scene.now) (sym same)
    (goes_on c.args.place c.args.scene.now c.args.shares.now c.requires.sides c.requires.told c.requires.later b.2 (subst IsReady same (returns-clause-ready c)))

pub returns-clause-seeds : goal.returns-clause-seeds
returns-clause-seeds c number =
    let b = begins c.args.place c.args.scene.now c.args.shares.now c.requires.later c.requires.begun in
    let same : standing_of (record { file = c.now_before-file.result; files = c.in_ok-files.files; drill = c.in_ok-drill.drill }) ≡ standing_before c.args.place c.args.scene.now c.args.shares.now = search rules in
    seeds_anywhere number c.args.place c.args.scene.now c.args.shares.now b.2 c.args.place ∙ sym (ap seeds_for same)
