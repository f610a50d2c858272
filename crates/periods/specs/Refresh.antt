-- The shares after a refresh.
use Rattle.std.specs.Prelude.{ℕ}
use Rattle.algebra61.specs.Field.{Fp, fe, ◌+ₚ◌, ◌*ₚ◌}
use Rattle.plays.specs.Play.{Play, created_share}

-- the refreshed share of a receiver whose share was old: its point times what was created is added. That factor makes the
-- constant of what is added 0, whatever the dealers deal
abbrev pub refreshed_share : Play → ℕ → ℕ → Fp → Fp
refreshed_share play lane receiver old = old +ₚ fe receiver *ₚ created_share play lane receiver
