-- The check of a lent list by what is found in it.
use Rattle.std.proofs.Common.{◌≡◌, ℕ, Bool, List, length}
use Rattle.centralized_telescope.specs.core.Elements.{mark_over, end_wrong, malformed, data_long, too_large, list_check, Lent, lent_of, elements}
use Rattle.centralized_telescope.specs.laws.ElementsLaws.{length_elements}
use Rattle.centralized_telescope.specs.inner.ListReading.{found_number}

-- what is found in a list of n ends and k indexes
pub found : (lent : Lent) (n k : ℕ) (over wrong long : Bool) → n ≡ length lent.ends → k ≡ length lent.indexes
    → over ≡ mark_over lent.marks → wrong ≡ end_wrong 0 (length lent.bytes) lent.ends → long ≡ data_long 0 lent.ends
    → found_number n (length lent.marks) k over wrong long ≡ list_check lent
unfolding list_check malformed too_large
found lent n k over wrong long N K o w l = rw (N, K, o, w, l)

-- of an accepted list there are as many elements as ends
pub elements_held : (d n m x : List ℕ) → list_check (lent_of d n m x) ≡ 0 → length (elements (lent_of d n m x)) ≡ length n
elements_held d n m x A = length_elements (lent_of d n m x) A
