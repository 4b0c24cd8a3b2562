-- What a call answers that refuses some arguments.
use Rattle.std.specs.Prelude.{◌≡◌, Option, None, Some, Result, Err, MatchResult}

-- The refusal, if there is one; else what P says, unless memory ran out.
abbrev pub Answers : {T E : Type 0} → Option E → E → Result T E → (T → Type 0) → Type 0
Answers (Some refusal) memory result P = result ≡ Err refusal
Answers None memory result P = MatchResult result P (λ e. e ≡ memory)
