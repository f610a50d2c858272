-- What is printed.
use Rattle.std.specs.Prelude.{ℕ, suc, List, [], ◌∷◌, ◌++◌, ◌*◌, ◌/◌, ◌%◌, codes, decimal, false}
use Rattle.std.specs.List.{flat_map}
use Rattle.std.specs.Fmt.{digit_glyph}
use Rattle.sharefile.specs.Files.{Now}
use Rattle.docvault.specs.Keys.{fingerprint_of}
use Rattle.keyroom.specs.declared.state.MemberState.{MemberState}
use Rattle.keyroom.specs.declared.state.MemberState.TheVariants.{Missing, Damaged, Wrong, Fine}
use Rattle.keyroom.specs.declared.recover.Recovered.{Recovered}
use Rattle.keyroom.specs.declared.check.Checked.{Checked}

-- with the line feed
abbrev pub line : List ℕ → List ℕ
line text = text ++ 10 ∷ []

-- `NAME N T period K`
abbrev pub committee_words : Now → List ℕ
committee_words f = f.name ++ (codes " " ++ (decimal f.n ++ (codes " " ++ (decimal f.t ++ (codes " period " ++ decimal f.period)))))

-- `NAME N T to M U period K` of a key that goes from the first committee to the second, whose period is K
abbrev pub move_words : Now → Now → List ℕ
move_words old new =
    old.name ++ (codes " " ++ (decimal old.n ++ (codes " " ++ (decimal old.t
    ++ (codes " to " ++ (decimal new.n ++ (codes " " ++ (decimal new.t ++ (codes " period " ++ decimal new.period)))))))))

abbrev pub state_text : MemberState → List ℕ
state_text Missing = codes "missing"
state_text Damaged = codes "damaged"
state_text Wrong = codes "wrong"
state_text Fine = codes "ok"

-- `member I STATE`
abbrev pub member_line : ℕ → MemberState → List ℕ
member_line index state = line (codes "member " ++ (decimal index ++ (codes " " ++ state_text state)))

-- the lines of the members from this index on
abbrev pub member_lines : ℕ → List MemberState → List ℕ
member_lines index [] = []
member_lines index (state ∷ states) = member_line index state ++ member_lines (suc index) states

-- two lower-case hexadecimal digits for each byte
abbrev pub hex_text : List ℕ → List ℕ
hex_text bytes = flat_map (λ b. digit_glyph false (b / 16) ∷ digit_glyph false (b % 16) ∷ []) bytes

abbrev pub recover_text : Recovered → List ℕ
recover_text r = line (codes "recover " ++ committee_words r.file) ++ (member_lines 1 r.members ++ line (codes "key " ++ hex_text (fingerprint_of r.lanes)))

abbrev pub check_text : Checked → List ℕ
check_text c = line (codes "check " ++ committee_words c.file) ++ member_lines 1 c.members

-- `round R mask M` for the masks from this round on
abbrev pub round_lines : ℕ → List ℕ → List ℕ
round_lines round [] = []
round_lines round (mask ∷ masks) = line (codes "round " ++ (decimal round ++ (codes " mask " ++ decimal mask))) ++ round_lines (suc round) masks

-- `accepted A of B`
abbrev pub accepted_line : ℕ → ℕ → List ℕ
accepted_line accepted instances = line (codes "accepted " ++ (decimal accepted ++ (codes " of " ++ decimal instances)))

-- what a phase came to: the masks of the rounds, and how many of how many instances were accepted
abbrev pub phase_lines : List ℕ → ℕ → ℕ → List ℕ
phase_lines masks accepted instances = round_lines 1 masks ++ accepted_line accepted instances

-- indexes, each behind a space
abbrev pub indexes_text : List ℕ → List ℕ
indexes_text indexes = flat_map (λ index. codes " " ++ decimal index) indexes

-- `corrected none`, or `corrected` and the indexes of the old members whose shares were corrected
abbrev pub corrected_line : List ℕ → List ℕ
corrected_line [] = line (codes "corrected none")
corrected_line (index ∷ indexes) = line (codes "corrected" ++ indexes_text (index ∷ indexes))

-- `shares` and the indexes that got a share file
abbrev pub shares_line : List ℕ → List ℕ
shares_line indexes = line (codes "shares" ++ indexes_text indexes)

-- what a command prints that begins a period of one committee, by its word: the committee and the period, what the phase
-- came to, and who got a share file
abbrev pub period_text : List ℕ → Now → List ℕ → ℕ → ℕ → List ℕ → List ℕ
period_text verb f masks accepted instances indexes =
    line (verb ++ (codes " " ++ committee_words f)) ++ (phase_lines masks accepted instances ++ shares_line indexes)

abbrev pub create_text : Now → List ℕ → ℕ → ℕ → List ℕ → List ℕ
create_text f masks accepted instances indexes = period_text (codes "create") f masks accepted instances indexes

-- the period is the new one
abbrev pub refresh_text : Now → List ℕ → ℕ → ℕ → List ℕ → List ℕ
refresh_text f masks accepted instances indexes = period_text (codes "refresh") f masks accepted instances indexes

-- what a move prints: both committees and the new period, what the phase came to with five instances of each old member,
-- whose old shares were corrected, and which new members got a share file
abbrev pub move_text : Now → Now → List ℕ → ℕ → List ℕ → List ℕ → List ℕ
move_text old new masks accepted corrected indexes =
    line (codes "move " ++ move_words old new) ++ (phase_lines masks accepted (5 * old.n) ++ (corrected_line corrected ++ shares_line indexes))

-- what a seal or an open prints, by its word: the document's number and length
abbrev pub document_text : List ℕ → List ℕ → ℕ → ℕ → List ℕ
document_text verb name number bytes = line (verb ++ (codes " " ++ (name ++ (codes " number " ++ (decimal number ++ (codes " bytes " ++ decimal bytes))))))
