-- The number and the line of a status.
use Rattle.std.specs.Prelude.{ℕ, List, [], ◌++◌, codes, decimal}
use Rattle.std.specs.List.{flat_map}
use Rattle.algebra61.specs.Field.{Fp}
use Rattle.sharefile.specs.Reading.{number_of}
use Rattle.docvault.specs.Opening as opening
use Rattle.keyroom.specs.declared.status.Status.{Status}
use Rattle.keyroom.specs.declared.status.Status.TheVariants.{Done, Usage, NoSuch, Exists, TooFewSound, NoKey, NoWord, BadBox, Full, BadDrill, ShelfFault, EntropyFault, NoThread, SinkFault, OutOfMemory, BadNow, TooLong}
use Rattle.keyroom.specs.declared.status.What.{What}
use Rattle.keyroom.specs.declared.status.What.TheVariants.{Now, Drill, Document, Box}
use Rattle.drillbook.specs.declared.fault.DrillFault.{DrillFault}
use Rattle.drillbook.specs.declared.fault.DrillFault.TheVariants as drill

-- the number that the program ends with
abbrev pub code_of : Status → ℕ
code_of Done = 0
code_of Usage = 2
code_of (NoSuch what) = 3
code_of Exists = 4
code_of (TooFewSound sound needed) = 5
code_of (NoKey lane) = 6
code_of (NoWord lane syndrome) = 6
code_of (BadBox fault) = 7
code_of (Full number) = 8
code_of (BadDrill fault) = 9
code_of ShelfFault = 10
code_of EntropyFault = 11
code_of NoThread = 12
code_of SinkFault = 13
code_of OutOfMemory = 14
code_of (BadNow fault) = 15
code_of (TooLong length) = 16

-- the word for a thing that isn't held
abbrev pub what_text : What → List ℕ
what_text Now = codes "now"
what_text Drill = codes "drill"
what_text Document = codes "document"
what_text Box = codes "box"

-- what is wrong with a drill: a line of it, a party that is no seat, or too many named
abbrev pub drill_text : DrillFault → List ℕ
drill_text (drill.BadLine line) = codes "line " ++ decimal line
drill_text (drill.Stranger line party) = codes "stranger " ++ decimal party
drill_text (drill.TooMany named bound) = codes "named " ++ (decimal named ++ (codes " bound " ++ decimal bound))
drill_text drill.OutOfMemory = codes "memory"

-- the values, each behind a space
abbrev pub values_text : List Fp → List ℕ
values_text values = flat_map (λ value. codes " " ++ decimal value.num) values

-- the line, without a line feed
abbrev pub status_line : Status → List ℕ
status_line Done = []
status_line Usage = codes "refused 2 usage"
status_line (NoSuch what) = codes "refused 3 nosuch " ++ what_text what
status_line Exists = codes "refused 4 exists"
status_line (TooFewSound sound needed) = codes "refused 5 sound " ++ (decimal sound ++ (codes " needed " ++ decimal needed))
status_line (NoKey lane) = codes "refused 6 lane " ++ decimal lane
status_line (NoWord lane syndrome) = codes "refused 6 lane " ++ (decimal lane ++ (codes " syndrome" ++ values_text syndrome))
status_line (BadBox fault) = codes "refused 7 box " ++ decimal (opening.number_of fault)
status_line (Full number) = codes "refused 8 full " ++ decimal number
status_line (BadDrill fault) = codes "refused 9 drill " ++ drill_text fault
status_line ShelfFault = codes "refused 10 shelf"
status_line EntropyFault = codes "refused 11 entropy"
status_line NoThread = codes "refused 12 thread"
status_line SinkFault = codes "refused 13 sink"
status_line OutOfMemory = codes "refused 14 memory"
status_line (BadNow fault) = codes "refused 15 now " ++ decimal (number_of fault)
status_line (TooLong length) = codes "refused 16 length " ++ decimal length
