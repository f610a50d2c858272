-- A seat that ends where a play defines has the play's refreshed shares.
use Rattle.std.proofs.Common.{◌≡◌, ℕ, List, map, get_or, refl, sym, ap₂, subst, arith}
use Rattle.algebra61.specs.Field.{Fp, fe, zeroₚ, ◌+ₚ◌, ◌*ₚ◌}
use Rattle.talk.specs.declared.part.Part.TheVariants.{Away, In}
use Rattle.plays.specs.Play.{Play, seat_of}
use Rattle.plays.specs.Said.{places}
use Rattle.plays.specs.Stage.{receiver_at}
use Rattle.members.specs.Laws.{HasShares, member_done}
use Rattle.members.proofs.Sums.{done_is_play}
use Rattle.periods.specs.Keeper.{Keeper}
use Rattle.zeroshare.specs.Refresh.{HasRefreshed, EndsRefreshed, refreshed_shares, keeper_shares}

-- the keeper that ends there
module _ (play : Play) (own : ℕ → List (List (List Fp))) (receiver : ℕ) (old : List Fp) where
  abbrev end : Keeper
  end = record { member = member_done play own receiver; old = old }

  got : HasShares play receiver (member_done play own receiver)
  got = done_is_play play receiver (member_done play own receiver) (record { shape = refl; stage = refl })

  its_shares : keeper_shares end ≡ refreshed_shares play receiver old
  its_shares =
      let back : receiver_at play.shape (seat_of play.shape receiver) ≡ receiver = omega arith in
      ap₂ (λ (j : ℕ) (dealt : List Fp). map (λ lane. get_or old lane zeroₚ +ₚ fe j *ₚ get_or dealt lane zeroₚ) (places 5)) back got.shares

  has_refreshed : HasRefreshed play receiver old (In end)
  has_refreshed = record { done = tt; shares = its_shares; accepted = got.accepted }

pub ends_refreshed : EndsRefreshed
ends_refreshed play own old receiver Away here = absurd here
ends_refreshed play own old receiver (In keeper) here =
    let before : List Fp = old (seat_of play.shape receiver) in
    subst (λ (k : Keeper). HasRefreshed play receiver before (In k)) (sym here) (has_refreshed play own receiver before)
