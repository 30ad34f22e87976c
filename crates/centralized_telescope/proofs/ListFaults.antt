-- The faults of a lent list, looked for from the front: what one place settles, and what it leaves to the places behind it.
use Rattle.std.proofs.Common.{◌≡◌, ℕ, ◌+◌, ◌-◌, ◌<◌, ◌≤◌, Bool, true, false, ◌||◌, ltb, List, length, get_or, drop, sym, refl, ◌∙◌, add-one, drop_of_length-le, drop-cons}
use Rattle.centralized_telescope.specs.core.Elements.{end_wrong, data_long, max_data_bytes}

or_assoc : (a b r : Bool) → (a || b) || r ≡ a || (b || r)
or_assoc true b r = refl
or_assoc false b r = refl

-- what is found before a place and at it, beside what is found behind it
one_more : (before here rest all : Bool) → before || (here || rest) ≡ all → (before || here) || rest ≡ all
one_more before here rest all e = or_assoc before here rest ∙ e

-- no place is left
none_left : (found rest all : Bool) → rest ≡ false → found || rest ≡ all → found ≡ all
none_left true rest all e f = f
none_left false rest all e f = sym e ∙ f

-- `from` is the end before the place i, x the one at i, found what is found before i
module _ (es : List ℕ) (i from : ℕ) (found all : Bool) where
  module _ (x : ℕ) (h : i < length es) (e : x ≡ get_or es i 0) where
    pub end_next : (limit : ℕ) (wrong : Bool) → wrong ≡ ltb x from || ltb limit x → found || end_wrong from limit (drop i es) ≡ all
        → (found || wrong) || end_wrong x limit (drop (i + 1) es) ≡ all
    unfolding end_wrong
    end_next limit wrong w f =
        let q : end_wrong from limit (drop i es) ≡ ltb x from || (ltb limit x || end_wrong x limit (drop (i + 1) es)) =
        rw (drop-cons es i 0 h, ← e, add-one i) in
        one_more found wrong _ all (rw (w, or_assoc (ltb x from) (ltb limit x)) (rw q at f))

    pub data_next : (long : Bool) → long ≡ ltb max_data_bytes (x - from) → found || data_long from (drop i es) ≡ all
        → (found || long) || data_long x (drop (i + 1) es) ≡ all
    unfolding data_long
    data_next long l f =
        let q : data_long from (drop i es) ≡ ltb max_data_bytes (x - from) || data_long x (drop (i + 1) es) =
        rw (drop-cons es i 0 h, ← e, add-one i) in
        one_more found long _ all (rw l (rw q at f))

  module _ (h : length es ≤ i) where
    pub ends_done : (limit : ℕ) → found || end_wrong from limit (drop i es) ≡ all → found ≡ all
    unfolding end_wrong
    ends_done limit = none_left found _ all (rw (drop_of_length-le es {i = i} h) refl)

    pub data_done : found || data_long from (drop i es) ≡ all → found ≡ all
    unfolding data_long
    data_done = none_left found _ all (rw (drop_of_length-le es {i = i} h) refl)
