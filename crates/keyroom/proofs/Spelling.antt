-- Words are at most one command's spelling: a function on words gives each command back from its spelling.
use Rattle.std.proofs.Common.{◌≡◌, ℕ, ◌^◌, ◌<◌, true, cond, List, [], ◌∷◌, get_or, drop, Option, Some, None, refl, sym, ap, ◌∙◌, arith}
use Rattle.std.specs.Prelude.{codes, decimal}
use Rattle.std.specs.Str.{bytes_eq}
use Rattle.std.proofs.lemmas.Bool.Decides.{nat_tests}
use Rattle.std.proofs.lemmas.Fmt.{digits_value-decimal}
use Rattle.sizes.specs.Committees.{is_size, is_bound}
use Rattle.keyroom.specs.Words.{Command, Create, Refresh, Move, Recover, Check, Seal, Open, Rehearse, MakesInRange, RehearsesInRange, IsInRange, optional, spelling, ReadsAs}
use Rattle.decimals.specs.Decimals.{number_of}
use Rattle.decimals.proofs.Numbers.{own}

pub small_size : (n : ℕ) → is_size n ≡ true → n < 2 ^ 32
small_size n is = grind (arith, nat_tests)

pub small_bound : (n t : ℕ) → is_size n ≡ true → is_bound n t ≡ true → t < 2 ^ 32
small_bound n t size is = grind (arith, nat_tests)

abbrev first_of : List (List ℕ) → Option (List ℕ)
first_of [] = None
first_of (word ∷ words) = Some word

-- the command that makes a committee, by the words behind the first
abbrev made_at : (List ℕ → ℕ → ℕ → Option (List ℕ) → Command) → List (List ℕ) → Command
made_at make words = make (get_or words 1 []) (number_of (get_or words 2 [])) (number_of (get_or words 3 [])) (first_of (drop 4 words))

-- the rehearsal, by the words behind the first
abbrev pub rehearsed_at : List (List ℕ) → Command
rehearsed_at words =
    Rehearse (number_of (get_or words 1 [])) (number_of (get_or words 2 [])) (number_of (get_or words 3 [])) (number_of (get_or words 4 []))

-- the command that words spell, whatever they are where they spell none
abbrev pub command_at : List (List ℕ) → Command
command_at words =
    cond (bytes_eq (get_or words 0 []) (codes "create")) (made_at Create words)
    (cond (bytes_eq (get_or words 0 []) (codes "refresh")) (Refresh (get_or words 1 []) (first_of (drop 2 words)))
    (cond (bytes_eq (get_or words 0 []) (codes "move")) (made_at Move words)
    (cond (bytes_eq (get_or words 0 []) (codes "recover")) (Recover (get_or words 1 []))
    (cond (bytes_eq (get_or words 0 []) (codes "check")) (Check (get_or words 1 []))
    (cond (bytes_eq (get_or words 0 []) (codes "seal")) (Seal (get_or words 1 []) (get_or words 2 []) (get_or words 3 []))
    (cond (bytes_eq (get_or words 0 []) (codes "open")) (Open (get_or words 1 []) (get_or words 2 []) (get_or words 3 []))
    (rehearsed_at words)))))))

first_back : (drill : Option (List ℕ)) → first_of (optional drill) ≡ drill
first_back None = refl
first_back (Some file) = refl

pub value_back : (n : ℕ) → n < 2 ^ 32 → number_of (decimal n) ≡ n
value_back n fits = digits_value-decimal own n (omega (arith, fits))

made_back : (make : List ℕ → ℕ → ℕ → Option (List ℕ) → Command) (name : List ℕ) (n t : ℕ) (drill : Option (List ℕ)) → MakesInRange name n t drill →
    make name (number_of (decimal n)) (number_of (decimal t)) (first_of (optional drill)) ≡ make name n t drill
made_back make name n t drill is = rw (value_back n (small_size n is.1), value_back t (small_bound n t is.1 is.2), first_back drill) refl

rehearsed_back : (members bound periods number : ℕ) → RehearsesInRange members bound periods number →
    Rehearse (number_of (decimal members)) (number_of (decimal bound)) (number_of (decimal periods)) (number_of (decimal number)) ≡ Rehearse members bound periods number
rehearsed_back members bound periods number is =
    rw (value_back members (small_size members is.0), value_back bound (small_bound members bound is.0 is.1), value_back periods (omega (arith, is.3)), value_back number is.4) refl

-- each command is given back
pub spelled_back : (command : Command) → IsInRange command → command_at (spelling command) ≡ command
spelled_back (Create name n t drill) is = made_back Create name n t drill is
spelled_back (Refresh name drill) is = ap (Refresh name) (first_back drill)
spelled_back (Move name n t drill) is = made_back Move name n t drill is
spelled_back (Recover name) is = refl
spelled_back (Check name) is = refl
spelled_back (Seal name doc target) is = refl
spelled_back (Open name source target) is = refl
spelled_back (Rehearse members bound periods number) is = rehearsed_back members bound periods number is

-- the command that words are
pub read_back : (words : List (List ℕ)) (command : Command) → ReadsAs words command → command_at words ≡ command
read_back words command reads = ap command_at reads.words_are ∙ spelled_back command reads.in_range

pub same_command : (words : List (List ℕ)) (a b : Command) → ReadsAs words a → ReadsAs words b → a ≡ b
same_command words a b p q = sym (read_back words a p) ∙ read_back words b q
