-- Numbers a byte at a time.
use Rattle.std.specs.Prelude.{ℕ, zero, suc, ◌+◌, ◌-◌, ◌*◌, ◌/◌, ◌%◌, cond, List, [], ◌∷◌, ltb}
use Rattle.layout.specs.Number.{is_digit}

-- The digits that a list of bytes begins with.
unfoldable pub digits : List ℕ → List ℕ
digits [] = []
digits (b ∷ bs) = cond (is_digit b) (b ∷ digits bs) []

-- One digit more; a value that is not below the bound stands still, so that it never grows past what its type holds.
unfoldable pub push_digit : ℕ → ℕ → ℕ → ℕ
push_digit bound v b = cond (ltb v bound) (v * 10 + (b - 48)) v

-- The last k digits of n before the bytes r: what a loop writes that begins with the last digit.
unfoldable pub last_digits : ℕ → ℕ → List ℕ → List ℕ
last_digits zero n r = r
last_digits (suc k) n r = last_digits k (n / 10) ((48 + n % 10) ∷ r)
