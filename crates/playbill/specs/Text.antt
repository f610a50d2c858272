-- What a rehearsal prints.
use Rattle.std.specs.Prelude.{ℕ, ◌*◌, List, [], ◌∷◌, ◌++◌, length, codes, decimal}
use Rattle.algebra61.specs.Field.{Fp}
use Rattle.docvault.specs.Keys.{fingerprint_of}
use Rattle.keyroom.specs.Texts.{hex_text, line}
use Rattle.scenes.specs.declared.side.Side.{Side}
use Rattle.scenes.specs.declared.scene.Scene.{Scene}
use Rattle.scenes.specs.declared.scene.Scene.TheVariants.{Create, Refresh, Move}
use Rattle.scenes.specs.Scenes.{down_count, old_side}

-- ---- a phase
-- `N T` of a committee
abbrev pub committee_words : Side → List ℕ
committee_words side = decimal side.members ++ (codes " " ++ decimal side.bound)

-- `VERB N T faulty F` of a phase of one committee
abbrev pub staying_words : List ℕ → Side → List ℕ
staying_words verb side = verb ++ (codes " " ++ (committee_words side ++ (codes " faulty " ++ decimal (down_count side))))

-- `move N T to M U faulty F G`: F members of the old committee are down and G of the new one
abbrev pub moving_words : Side → Side → List ℕ
moving_words old new =
    codes "move " ++ (committee_words old ++ (codes " to " ++ (committee_words new
    ++ (codes " faulty " ++ (decimal (down_count old) ++ (codes " " ++ decimal (down_count new)))))))

abbrev pub scene_words : Scene → List ℕ
scene_words (Create side) = staying_words (codes "create") side
scene_words (Refresh side) = staying_words (codes "refresh") side
scene_words (Move old new) = moving_words old new

-- and `accepted A of B`: there are five instances for each member of the committee that begins the phase
abbrev pub phase_line : Scene → ℕ → List ℕ
phase_line scene accepted =
    line (scene_words scene ++ (codes " accepted " ++ (decimal accepted ++ (codes " of " ++ decimal (5 * (old_side scene).members)))))

-- those of all phases, each with its count of accepted instances
abbrev pub phase_lines : List Scene → List ℕ → List ℕ
phase_lines [] accepted = []
phase_lines (scene ∷ scenes) [] = []
phase_lines (scene ∷ scenes) (count ∷ accepted) = phase_line scene count ++ phase_lines scenes accepted

-- ---- the keys and the views
-- a key is named by its fingerprint
abbrev pub key_line : List ℕ → List Fp → List ℕ
key_line word lanes = line (word ++ (codes " " ++ hex_text (fingerprint_of lanes)))

-- of so many periods
abbrev pub views_line : ℕ → List ℕ
views_line periods = line (codes "views " ++ (decimal periods ++ codes " same"))

-- ---- all of it
-- by the phases, how many instances are accepted in each, the key, and the key of the other choices. Each phase begins a
-- period
abbrev pub rehearsal_text : List Scene → List ℕ → List Fp → List Fp → List ℕ
rehearsal_text scenes accepted key other =
    phase_lines scenes accepted ++ (key_line (codes "key") key ++ (key_line (codes "other") other ++ views_line (length scenes)))
