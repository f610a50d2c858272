-- Rings while they are laid: the sending halves by sender, the receiving halves by receiver.
use Rattle.std.specs.Prelude.{◌≡◌, ℕ, ◌<◌, List, [], ◌∷◌, ◌++◌, length, get_or}
use Rattle.std.proofs.Common.{Vec, Global}
use Rattle.rtrb.specs.Ring.{sent, received, known_items, IsPair}
use Rattle.pairrings.specs.declared.heads.Head.{Head}
use Rattle.pairrings.specs.declared.tails.Tail.{Tail}
use Rattle.pairrings.specs.declared.ends.End.{End}

module _ {M : Type 0} where
  -- a sending half that was laid for `rounds` items, of which none was sent
  pub record FreshHead (rounds : ℕ) (h : Head M) : Type 0 where
    pub laid : h.laid ≡ rounds
    pub none_sent : sent h.ring ≡ []

  -- a receiving half from which nothing was received
  pub record FreshTail (t : Tail M) : Type 0 where
    pub none_got : received t.ring ≡ []
    pub none_known : known_items t.ring ≡ []
    pub never_dry : t.dry ≡ 0

  -- one ring more: its receiving half is the last of the list
  pub record Grown (rounds : ℕ) (old : Vec (Tail M) Global) (h : Head M) (new : Vec (Tail M) Global) : Type 0 where
    pub last : Tail M
    pub items : new.items ≡ old.items ++ last ∷ []
    pub head : FreshHead rounds h
    pub tail : FreshTail last
    pub pair : IsPair h.ring last.ring

  -- one ring more to each of the first `done` receivers
  pub record GrownBelow (rounds done : ℕ) (olds : List (Vec (Tail M) Global)) (heads : List (Head M)) (news : List (Vec (Tail M) Global)) : Type 0 where
    pub count : length heads ≡ done
    pub grown : (k : ℕ) (o n : Vec (Tail M) Global) (h : Head M) → k < done → Grown rounds (get_or olds k o) (get_or heads k h) (get_or news k n)

  -- the rings of the first `done` senders to each of `seats` receivers
  pub record LaidBelow (rounds seats done : ℕ) (heads : List (Vec (Head M) Global)) (tails : List (Vec (Tail M) Global)) : Type 0 where
    pub senders : length heads ≡ done
    pub receivers : length tails ≡ seats
    pub to_each : (i : ℕ) (hs : Vec (Head M) Global) → i < done → length (get_or heads i hs).items ≡ seats
    pub from_each : (j : ℕ) (ts : Vec (Tail M) Global) → j < seats → length (get_or tails j ts).items ≡ done
    pub fresh_heads : (i j : ℕ) (hs : Vec (Head M) Global) (h : Head M) → i < done → j < seats → FreshHead rounds (get_or (get_or heads i hs).items j h)
    pub fresh_tails : (i j : ℕ) (ts : Vec (Tail M) Global) (t : Tail M) → i < done → j < seats → FreshTail (get_or (get_or tails j ts).items i t)
    pub pairs : (i j : ℕ) (hs : Vec (Head M) Global) (ts : Vec (Tail M) Global) (h : Head M) (t : Tail M) → i < done → j < seats →
        IsPair (get_or (get_or heads i hs).items j h).ring (get_or (get_or tails j ts).items i t).ring

module _ {M : Type 0} {S : ℕ} where
  -- the first `done` ends are made of these halves
  pub record JoinedBelow (done : ℕ) (heads : List (Vec (Head M) Global)) (tails : List (Vec (Tail M) Global)) (ends : List (End M S)) : Type 0 where
    pub count : length ends ≡ done
    pub heads_are : (k : ℕ) (e : End M S) (hs : Vec (Head M) Global) → k < done → (get_or ends k e).heads ≡ get_or heads k hs
    pub tails_are : (k : ℕ) (e : End M S) (ts : Vec (Tail M) Global) → k < done → (get_or ends k e).tails ≡ get_or tails k ts
