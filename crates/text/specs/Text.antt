-- Numbers as text: how they are written in decimal, where text is laid, and which text is a number.
-- Bytes are ASCII: 48 to 57 are the digits 0 to 9.
use Rattle.std.specs.Prelude.{◌≡◌, Bool, true, cond, not, ◌&&◌, ◌||◌, List, [], ◌∷◌, ◌++◌, ℕ, zero, suc, ◌+◌, ◌-◌}
use Rattle.std.specs.Prelude.{Option, Some, None, ◌*◌, ◌/◌, ◌%◌, min, eqb, leb, ltb, length, get_or, take, drop}
use Prim.Native.Char.{code}
use Prim.Native.String.{String, len, char_at}
use Rattle.storage.specs.Media.{laid_over}

-- the codes of n characters of a text, from the i-th on
abbrev pub codes_from : ℕ → ℕ → String → List ℕ
codes_from zero i s = []
codes_from (suc n) i s = code (char_at s i) ∷ codes_from n (i + 1) s

-- a text's bytes
abbrev pub codes : String → List ℕ
codes s = codes_from (len s) 0 s

-- the decimal digits of n with no zero in front, at most k of them
unfoldable pub digits_of : ℕ → ℕ → List ℕ
digits_of zero n = []
digits_of (suc k) n = cond (ltb n 10) ((48 + n) ∷ []) (digits_of k (n / 10) ++ ((48 + n % 10) ∷ []))

-- the decimal digits of a number of 64 bits, which has 20 at most
unfoldable pub decimal : ℕ → List ℕ
decimal n = digits_of 20 n

-- out with s laid at a place; what of s does not fit is left out
unfoldable pub laid_at : List ℕ → ℕ → List ℕ → List ℕ
laid_at out at s = take at out ++ laid_over (drop at out) s

-- where s ends when it is laid at a place of out
abbrev pub end_at : List ℕ → ℕ → List ℕ → ℕ
end_at out at s = at + min (length s) (length out - at)

-- s was put at a place of out: n is where it ends, out' is out afterwards
pub record Puts (out : List ℕ) (at : ℕ) (s : List ℕ) (n : ℕ) (out' : List ℕ) : Type 0 where
  pub ends : n ≡ end_at out at s
  pub all : out' ≡ laid_at out at s

-- the place of the first byte b, or the list's length where there is none
unfoldable pub place_of : ℕ → List ℕ → ℕ
place_of b [] = 0
place_of b (x ∷ xs) = cond (eqb x b) 0 (suc (place_of b xs))

-- the byte is `0` to `9`
abbrev pub is_digit : ℕ → Bool
is_digit b = leb 48 b && leb b 57

-- every byte is a digit
unfoldable pub all_digits : List ℕ → Bool
all_digits [] = true
all_digits (b ∷ bs) = is_digit b && all_digits bs

-- one or more digits, of which the first is no zero unless it is alone
unfoldable pub is_decimal : List ℕ → Bool
is_decimal s = ltb 0 (length s) && all_digits s && (eqb (length s) 1 || not (eqb (get_or s 0 0) 48))

-- the number that digits make behind the digits of v, of any size
unfoldable pub value_from : ℕ → List ℕ → ℕ
value_from v [] = v
value_from v (b ∷ bs) = value_from (v * 10 + (b - 48)) bs

-- the greatest number of 64 bits
abbrev pub most : ℕ
most = 18446744073709551615

-- the number that a text is: in decimal, and 64 bits hold it
unfoldable pub number_of : List ℕ → Option ℕ
number_of s = cond (is_decimal s && leb (value_from 0 s) most) (Some (value_from 0 s)) None
