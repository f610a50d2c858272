use Rattle.std.proofs.Common.{rules, ◌≡◌, ℕ, ◌+◌, List, [], ◌∷◌, ◌++◌, sym, ◌∙◌, subst, Some}
use Rattle.talk.specs.declared.messages.Post.{Post as PostValue}
use Rattle.party_crew.specs.Taken.{PostsTaken}
use Rattle.party_crew.proofs.Took.{posts_more}
use Rattle.party_crew.proofs.hearing.take_posts.Goals as goal

pub loop-place-preserved : goal.loop-place-preserved
loop-place-preserved g c =
    let t = c.loop-place.invariant.taken in
    let o = c.in_ok-post.ensures.taken in
    record {
      pen = c.take_post.ensures.pen;
      same = c.take_post.ensures.place ∙ c.loop-place.invariant.same;
      log = c.take_post.ensures.log ∙ c.loop-place.invariant.log;
      learns = λ i x h. c.take_post.ensures.learns i x (c.loop-place.invariant.learns i x h);
      taken = (
        t.0 ++ o.0 ∷ [],
        subst (λ (ps : List PostValue). PostsTaken c.args.setting.now g.row.S c.args.round c.args.mask (c.loop-place.place + 1) c.take_post.new.pen.cells (t.0 ++ o.0 ∷ []) ps)
            (sym c.in_ok-push.ensures)
            (posts_more c.args.setting.now g.row.S c.args.round c.args.mask c.loop-place.place c.loop-place.pen.cells c.take_post.new.pen.cells t.0 c.loop-place.posts o.0 c.in_ok-post.post t.1 c.take_post.ensures.learns o.1),
      );
    }
