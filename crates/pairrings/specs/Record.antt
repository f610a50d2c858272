-- What a contract sees of the record of all rings.
use Rattle.std.specs.Prelude.{ℕ, List}
use Rattle.pairrings.specs.declared.record.RingRecord.{RingRecord}
use Rattle.pairrings.specs.Records.{sent_between, got_between}

module _ {M : Type 0} {S : ℕ} where
  -- the items that the seat at place i sent to the one at place j
  abbrev pub sent_in : RingRecord M S → ℕ → ℕ → List M
  sent_in r i j = sent_between r.ends.items i j

  -- the items that the seat at place j received from the one at place i
  abbrev pub got_in : RingRecord M S → ℕ → ℕ → List M
  got_in r i j = got_between r.ends.items i j
