-- What a hasher is after a string, and after a string in two parts.
use Rattle.std.proofs.Common.{◌≡◌, ℕ, ◌+◌, ◌-◌, List, length, take, drop, ap, ◌∙◌, take-append-drop}
use Rattle.sampling.specs.laws.CommonLaws.{all_behind}
use Rattle.sampling.specs.later.Hasher.{absorb_bytes}
use Rattle.sampling.specs.laws.HasherLaws.{absorb_bytes_append, absorb_bytes_len}
use Rattle.sampling.specs.declared.sha256.Hasher.{Hasher}

pub len_after : (h r : Hasher) (s : List ℕ) → r ≡ absorb_bytes h s → r.len ≡ h.len + length s
len_after h r s e = ap (λ (x : Hasher). x.len) e ∙ absorb_bytes_len h s

-- a string in two parts
pub in_two : (h h₁ h₂ : Hasher) (s : List ℕ) (n : ℕ) → h₁ ≡ absorb_bytes h (take n s) → h₂ ≡ absorb_bytes h₁ (take (length s - n) (drop n s))
    → h₂ ≡ absorb_bytes h s
in_two h h₁ h₂ s n p q = q ∙ rw (p, all_behind s n, ← absorb_bytes_append h (take n s) (drop n s), take-append-drop n s)
