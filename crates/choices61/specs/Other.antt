-- The other choices of a history for a difference of the keys: each phase is translated.
use Rattle.std.specs.Prelude.{ℕ, zero, suc, Bool}
use Rattle.algebra61.specs.Field.{Fp}
use Rattle.histories61.specs.Course.{Course}
use Rattle.choices61.specs.Translation.{translated_phase}

-- who is exposed in the period that a phase ends. The first phase ends none, and what stands for it is never read
abbrev pub exposed_before : Course → ℕ → ℕ → Bool
exposed_before course zero = course.exposed 0
exposed_before course (suc phase) = course.exposed phase

abbrev pub other_course : Course → (ℕ → Fp) → Course
other_course course difference =
    record course { play = λ k. translated_phase (course.kind k) (course.play k) (exposed_before course k) (course.exposed k) difference }
