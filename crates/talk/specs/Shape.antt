-- The setting of a phase: its committees, degrees and seats. Members, receivers and seats are numbered from 1.
use Rattle.std.specs.Prelude.{◌≡◌, ℕ, ◌+◌, ◌-◌, ◌*◌, ◌<◌, ◌≤◌, ◌⊎◌, refl, Bool, ◌&&◌, eqb, cond}
use Rattle.std.specs.Coded.{Coded, code_by, coded×, coded_ℕ}
use Rattle.std.proofs.Common.{leb}

-- receivers: how many members receive. bound: how many of them may be faulty. degree: that of a dealer's grid in each
-- variable. dealers: how many members deal. shift: how many seats come before the first receiver's. checks: places of a
-- syndrome, 0 where nothing is opened
pub record Shape : Type 0 where
  pub receivers : ℕ
  pub bound : ℕ
  pub degree : ℕ
  pub dealers : ℕ
  pub shift : ℕ
  pub checks : ℕ

-- a setting is stored as its six numbers
abbrev pub shape_code : Coded Shape
shape_code =
    code_by
    ((ℕ × (ℕ × ℕ)) × (ℕ × (ℕ × ℕ)))
    (coded× (coded× coded_ℕ (coded× coded_ℕ coded_ℕ)) (coded× coded_ℕ (coded× coded_ℕ coded_ℕ)))
    (λ setting. (
      (setting.receivers, (setting.bound, setting.degree)),
      (setting.dealers, (setting.shift, setting.checks)),
    ))
    (λ numbers. record {
      receivers = numbers.0.0;
      bound = numbers.0.1.0;
      degree = numbers.0.1.1;
      dealers = numbers.1.0;
      shift = numbers.1.1.0;
      checks = numbers.1.1.1;
    })
    (λ _. refl)

-- one committee deals and receives, on the same seats
pub record OneCommittee (setting : Shape) : Type 0 where
  pub no_shift : setting.shift ≡ 0
  pub same : setting.dealers ≡ setting.receivers
  pub checks : setting.checks ≤ 1

-- an old committee, with a bound of its own, deals to a new one that sits behind it
pub record TwoCommittees (setting : Shape) (old_bound : ℕ) : Type 0 where
  pub behind : setting.shift ≡ setting.dealers
  pub some_bad : 1 ≤ old_bound
  pub third : 3 * old_bound < setting.dealers
  pub checks : setting.checks + old_bound + 1 ≡ setting.dealers

-- the rules of a setting
pub record Lawful (setting : Shape) : Type 0 where
  pub receivers : (4 ≤ setting.receivers) × (setting.receivers ≤ 15)
  pub dealers : (4 ≤ setting.dealers) × (setting.dealers ≤ 15)
  pub some_bad : 1 ≤ setting.bound
  pub third : 3 * setting.bound < setting.receivers
  pub degree : setting.degree ≤ setting.bound
  pub committees : OneCommittee setting ⊎ ((old_bound : ℕ) × TwoCommittees setting old_bound)

-- the setting of a create by members of whom as many as the bound may be faulty
abbrev pub create_shape : ℕ → ℕ → Shape
create_shape members bound =
    record { receivers = members; bound = bound; degree = bound; dealers = members; shift = 0; checks = 0 }

-- the setting of a refresh: each dealer shares 0
abbrev pub refresh_shape : ℕ → ℕ → Shape
refresh_shape members bound =
    record { receivers = members; bound = bound; degree = bound - 1; dealers = members; shift = 0; checks = 0 }

-- the setting of a move from members to receivers who are others, and have a bound of their own
abbrev pub move_shape : ℕ → ℕ → ℕ → ℕ → Shape
move_shape members bound receivers new_bound = record {
  receivers = receivers;
  bound = new_bound;
  degree = new_bound;
  dealers = members;
  shift = members;
  checks = members - bound - 1;
}

-- the setting in which masked values are handed to who lost a share: nothing is shared, and nothing opened
abbrev pub hand_shape : ℕ → ℕ → Shape
hand_shape members bound =
    record { receivers = members; bound = bound; degree = 0; dealers = members; shift = 0; checks = 0 }

-- the setting in which products are opened to compare two keys: nothing is shared, and one place is opened in each lane
abbrev pub open_shape : ℕ → ℕ → Shape
open_shape members bound =
    record { receivers = members; bound = bound; degree = 0; dealers = members; shift = 0; checks = 1 }

-- how many seats there are
abbrev pub seats : Shape → ℕ
seats setting = setting.shift + setting.receivers

-- how many rounds a phase has
abbrev pub rounds : Shape → ℕ
rounds setting = cond (eqb setting.checks 0) 5 6

-- how many instances: five lanes for each dealer
abbrev pub instances : Shape → ℕ
instances setting = setting.dealers * 5

-- the number is from the lowest to the highest
abbrev pub within : ℕ → ℕ → ℕ → Bool
within lowest number highest = leb lowest number && leb number highest

-- a dealer sits there
abbrev pub deals : Shape → ℕ → Bool
deals setting seat = within 1 seat setting.dealers

-- a receiver sits there
abbrev pub receives : Shape → ℕ → Bool
receives setting seat = within (setting.shift + 1) seat (seats setting)
