-- Laws of elements as bytes: how many there are.
use Rattle.std.specs.Prelude.{◌≡◌, ℕ, ◌+◌, ◌*◌, ◌≤◌, List, [], ◌∷◌, length, refl}
use Rattle.std.proofs.Math.Option.{Option, none, some}
use Rattle.std.proofs.Common.{arith, length-append}
use Rattle.sampling.specs.core.BigEndian.{bytes_of}
use Rattle.sampling.specs.laws.BigEndianLaws.{length_bytes_of}
use Rattle.centralized_telescope.specs.core.Lists.{Each}
use Rattle.centralized_telescope.specs.core.Elements.{Element, index_bytes}
use Rattle.centralized_telescope.specs.later.Words.{mark_of}
use Rattle.centralized_telescope.specs.later.ElementBytes.{head_bytes, element_bytes, elements_bytes, max_head_bytes}

-- ---- the bytes before an element's data

pub index_length : (o : Option ℕ) → length (index_bytes o) ≡ 8 * mark_of o
index_length none = refl
index_length (some v) = length_bytes_of 8 v

pub head_length : (o : Option ℕ) (n : ℕ) → length (head_bytes o n) ≡ 5 + 8 * mark_of o
head_length o n = omega (arith, length-append (index_bytes o) (bytes_of 4 n), index_length o, length_bytes_of 4 n)

pub length_element : (e : Element) → length (element_bytes e) ≡ 5 + 8 * mark_of e.index + length e.bytes
unfolding element_bytes
length_element e =
    omega (arith, length-append (head_bytes e.index (length e.bytes)) e.bytes, head_length e.index (length e.bytes))

pub marked_one : (o : Option ℕ) → mark_of o ≤ 1
marked_one none = omega arith
marked_one (some v) = omega arith

-- elements with data no longer than some length
pub elements_most : (longest : ℕ) (es : List Element) → Each (λ (e : Element). length e.bytes ≤ longest) es
    → length (elements_bytes es) ≤ length es * (max_head_bytes + longest)
unfolding Each elements_bytes
elements_most longest [] h = omega arith
elements_most longest (e ∷ es) h =
    omega (
      arith,
      length-append (element_bytes e) (elements_bytes es),
      length_element e,
      marked_one e.index,
      h.0,
      elements_most longest es h.1,
    )
