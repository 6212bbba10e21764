-- A question as the data's bytes hold it; s begins at the question.
use Rattle.std.specs.Prelude.{◌≡◌, ℕ, ◌+◌, ◌*◌, ◌≤◌, List, ◌++◌, length, get_or, drop}
use Rattle.format.specs.Format.{number16}
use Rattle.cases.specs.declared.questions.Question.{Question}

-- A number of four bytes, the highest first.
abbrev pub number32 : List ℕ → ℕ
number32 s = number16 s * 65536 + number16 (drop 2 s)

-- How long the name is, the steps and the record, whose bytes are the question's last part.
abbrev pub name_length : List ℕ → ℕ
name_length s = get_or s 0 0

abbrev pub steps_length : List ℕ → ℕ
steps_length s = number16 (drop 10 s)

abbrev pub bytes_length : List ℕ → ℕ
bytes_length s = number16 (drop 12 s)

-- How long the whole question is, 14 bytes at the least.
abbrev pub question_length : List ℕ → ℕ
question_length s = 14 + name_length s + steps_length s + bytes_length s

-- Question q is at the front and whole, and the rest follows it.
pub record IsFirst (s : List ℕ) (q : Question) (rest : List ℕ) : Type 0 where
  pub whole : question_length s ≤ length s
  pub kind : q.kind ≡ get_or s 1 0
  pub first : q.first ≡ number32 (drop 2 s)
  pub second : q.second ≡ number32 (drop 6 s)
  pub name : length q.name.now ≡ name_length s
  pub steps : length q.steps.now ≡ steps_length s
  pub bytes : length q.bytes.now ≡ bytes_length s
  pub parts : drop 14 s ≡ q.name.now ++ (q.steps.now ++ (q.bytes.now ++ rest))
