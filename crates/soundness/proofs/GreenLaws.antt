-- What the verifier accepts, with a function in SHA-256's place, passes in the function's table: so its share is that of `ShareLaws`.
use Rattle.std.specs.Prelude.{◌≡◌, Bool, cond, not, ℕ, zero, suc, ◌+◌, ◌*◌, ◌^◌, ◌≤◌, ◌<◌, leb, length, take, get_or}
use Rattle.std.proofs.Math.Path.{refl, subst}
use Rattle.std.proofs.Common.{sym, ◌∙◌, ap, inl, inr, le_of_mul-le-mul_right, mul-zero, eq-zero-or-pos, arith, pow_pos}
use Rattle.std.proofs.Math.Bool.{true, false}
use Rattle.std.proofs.lemmas.Bool.{false≢true}
use mathlib.Core.List.Memᴰ
use mathlib.Core.List.{List, [], ◌∷◌, ◌++◌, map, Memᴰ}
use Rattle.std.proofs.Math.Option.{Option, none, some}
use Rattle.std.proofs.Math.Nat.{one-le-pow}
use borrow.Author.Tests.{lt-ltb, eqb-true, leb-false, ne_eqb, eq-eqb}
use Rattle.std.proofs.Math.Dec.{eqb}
use Rattle.sampling.specs.core.BigEndian.{bytes_of}
use Rattle.sampling.specs.core.Sample.{value_of, bernoulli}
use Rattle.centralized_telescope.specs.declared.params.Params.{Params}
use Rattle.centralized_telescope.specs.core.Lists.{Each}
use Rattle.centralized_telescope.specs.core.Params.{not_one_to, checked}
use Rattle.centralized_telescope.specs.core.Elements.{Element, tail, elements, element_at, list_check}
use Rattle.centralized_telescope.specs.core.Rounds.{round_label, bin_label, proof_label, drawn_below, round_id}
use Rattle.centralized_telescope.specs.core.Verifier.{if_some, is_bin, counters_out}
use Rattle.centralized_telescope.specs.laws.TestLaws.{neither}
use Rattle.sampling.specs.core.FirstNumber.{line, first_number}
use Rattle.sampling.specs.laws.FirstNumberLaws.{number_met, number_none, number_last}
use Rattle.centralized_telescope.specs.laws.ParamsLaws.{set_size_refused}
use Rattle.soundness.specs.AnyHash.{start_input, next_input, last_input, bin_with, follow_with, last_with, yes_with, judged_with, verdict_with}
use Rattle.soundness.specs.Functions.{how_many_strings, place_of, how_many_digests, hash_of, one_if, how_many_tables}
use Rattle.soundness.specs.Green.{IsElement, Sent, MadeOf, accepts, longest, how_many_green, how_many_functions}
use Rattle.soundness.specs.Green.{chains_term, again_term, GreenShare}
use Rattle.soundness.specs.laws.TableLaws.{are_below, tables_same, tables_const, tables_bounded, joined, joined_at, tables_joined}
use Rattle.soundness.specs.laws.DigestLaws.{bin_is, id_share, yes_share}
use Rattle.soundness.specs.laws.PlaceLaws.{place_apart, place_within, byte_at, byte_at_lem}
use Rattle.soundness.specs.laws.InputLaws.{Asked, start_asked, next_asked, bin_asked, last_asked, round_byte, bin_byte, last_byte}
use Rattle.soundness.specs.laws.InputLaws.{next_next, next_start, last_other}
use Rattle.soundness.specs.laws.ShareLaws.{Game, Apart, Choice, passes_on, green_on, green_tables}

-- ---- a table of two parts: bins are looked up in the first, all else in the second

abbrev of_bin : ℕ → Bool
of_bin i = eqb (byte_at 10 i) 98

at_bin : (s t r : List ℕ) → Asked (bin_label ++ r) → hash_of (joined of_bin s t) (bin_label ++ r) ≡ hash_of s (bin_label ++ r)
at_bin s t r a =
    let b : byte_at 10 (place_of (bin_label ++ r)) ≡ 98 = byte_at_lem 10 (bin_label ++ r) a.of_bytes (bin_byte r).0 ∙ (bin_byte r).1 in
    ap (bytes_of 32)
    (joined_at of_bin s t (place_of (bin_label ++ r))
    ∙ ap (λ (z : Bool). cond z (get_or s (place_of (bin_label ++ r)) 0) (get_or t (place_of (bin_label ++ r)) 0)) (eq-eqb _ 98 b))

elsewhere : (s t q : List ℕ) (b : ℕ) → Asked q → (10 < length q) × (get_or q 10 0 ≡ b) → (b ≡ 98 → ⊥)
    → hash_of (joined of_bin s t) q ≡ hash_of t q
elsewhere s t q b a l n =
    let e : byte_at 10 (place_of q) ≡ b = byte_at_lem 10 q a.of_bytes l.0 ∙ l.1 in
    ap (bytes_of 32)
    (joined_at of_bin s t (place_of q)
    ∙ ap (λ (z : Bool). cond z (get_or s (place_of q) 0) (get_or t (place_of q) 0)) (ne_eqb _ 98 (λ x. n (sym e ∙ x))))

at_round : (s t r : List ℕ) → Asked (round_label ++ r) → hash_of (joined of_bin s t) (round_label ++ r) ≡ hash_of t (round_label ++ r)
at_round s t r a = elsewhere s t (round_label ++ r) 114 a (round_byte r) (λ x. omega arith)

at_last : (s t r : List ℕ) → Asked (proof_label ++ r) → hash_of (joined of_bin s t) (proof_label ++ r) ≡ hash_of t (proof_label ++ r)
at_last s t r a = elsewhere s t (proof_label ++ r) 112 a (last_byte r) (λ x. omega arith)

-- ---- the game on the second part, the first being given

abbrev game : Params → List Element → List ℕ → Game
game p E s = record {
  r = p.max_retries;
  d = p.search_width;
  f = length E;
  u = p.proof_size;
  fits = λ (R e v : ℕ). bin_is (bin_with (hash_of s) p.set_size R (element_at E e)) (round_id p.set_size (bytes_of 32 v));
  says = λ (v : ℕ). bernoulli (take 16 (bytes_of 32 v)) (value_of p.x);
  start_at = λ (R S : ℕ). place_of (start_input R S);
  next_at = λ (h e : ℕ). place_of (next_input (bytes_of 32 h) (element_at E e));
  last_at = λ (h : ℕ). place_of (last_input (bytes_of 32 h));
}

element_of_lem : (E : List Element) → Each IsElement E → (i : ℕ) → i < length E → IsElement (element_at E i)
unfolding Each element_at
element_of_lem [] w i l = absurd (omega arith)
element_of_lem (e ∷ E) w zero l = w.0
element_of_lem (e ∷ E) w (suc i) l = element_of_lem E w.1 i (omega arith)

-- an element with the Tail t
with_tail : (t : List ℕ) (E : List Element) → Memᴰ t (map tail E) → (i : ℕ) × (i < length E) × (tail (element_at E i) ≡ t)
unfolding element_at
with_tail t [] m = absurd (Memᴰ.not-nil m)
with_tail t (x ∷ E) m = elim (Memᴰ.cases_cons m) [
  | inl q ↦ (0, omega arith, sym q)
  | inr q ↦ (let r = with_tail t E q in (suc r.0, later r.1, r.2))
]
  where
    later : {a b : ℕ} → a < b → suc a < suc b
    later l = omega arith

module _ (p : Params) (E : List Element) (fine : Each IsElement E) (s : List ℕ) where
  next_of_lem : (h e : ℕ) → e < length E → Asked (next_input (bytes_of 32 h) (element_at E e))
  next_of_lem h e l = next_asked h (element_at E e) (element_of_lem E fine e l)

  apart : Apart (game p E s) how_many_digests (how_many_strings longest)
  apart = record {
    start_within = λ R S. within (start_asked R S);
    next_within = λ h e l. within (next_of_lem h e l);
    last_within = λ h. within (last_asked h);
    next_next = λ h e g c l m q. next_next h g (element_at E e) (element_at E c) (same (next_of_lem h e l) (next_of_lem g c m) q);
    next_start = λ h e R S l q. next_start h R S (element_at E e) (same (next_of_lem h e l) (start_asked R S) q);
    last_next = λ g h e l q. last_other _ _ (same (last_asked g) (next_of_lem h e l) q);
    last_start = λ g R S q. last_other _ _ (same (last_asked g) (start_asked R S) q);
  }
    where
      within : {q : List ℕ} → Asked q → place_of q < how_many_strings longest
      within {q} a = place_within longest q a.of_bytes a.short

      same : {q r : List ℕ} → Asked q → Asked r → place_of q ≡ place_of r → q ≡ r
      same {q} {r} a b = place_apart q r a.of_bytes b.of_bytes

  -- ---- with the second part: what is followed to a yes passes in it

  module _ (t : List ℕ) where
    abbrev hash : List ℕ → List ℕ
    hash = hash_of (joined of_bin s t)

    -- the digests of a start and of a next hash, as numbers
    abbrev start_of : ℕ → ℕ → ℕ
    start_of R S = get_or t (place_of (start_input R S)) 0

    abbrev next_of : ℕ → ℕ → ℕ
    next_of h e = get_or t (place_of (next_input (bytes_of 32 h) (element_at E e))) 0

    abbrev id_of : List ℕ → Option ℕ
    id_of h = round_id p.set_size h

    abbrev Among : List Element → Type 0
    Among es = Each (λ (e : Element). Memᴰ (tail e) (map tail E)) es

    -- so many places of E that pass, from a digest on
    abbrev Passing : ℕ → ℕ → ℕ → Type 0
    Passing R h j = (places : List ℕ) × (are_below (length E) j places ≡ true) × (passes_on (game p E s) R t h places ≡ true)

    -- the place of an element that has this one's Tail
    abbrev Stands : Element → Type 0
    Stands e = (i : ℕ) × (i < length E) × (tail (element_at E i) ≡ tail e)

    bin_same : (R : ℕ) (e : Element) (at : Stands e)
        → bin_with hash p.set_size R e ≡ bin_with (hash_of s) p.set_size R (element_at E at.0)
    bin_same R e at =
        ap (λ (z : List ℕ). drawn_below p.set_size (hash (bin_label ++ (bytes_of 8 R ++ z)))) (sym at.2)
        ∙ ap (drawn_below p.set_size)
        (at_bin s t (bytes_of 8 R ++ tail (element_at E at.0)) (bin_asked R (element_at E at.0) (element_of_lem E fine at.0 at.1)))

    next_same : (h : ℕ) (e : Element) (at : Stands e) → hash (next_input (bytes_of 32 h) e) ≡ bytes_of 32 (next_of h at.0)
    next_same h e at =
        ap (λ (z : List ℕ). hash (round_label ++ (bytes_of 32 h ++ z))) (sym at.2)
        ∙ at_round s t (bytes_of 32 h ++ tail (element_at E at.0)) (next_of_lem h at.0 at.1)

    one_more : (R h i e j : ℕ) → e < length E → id_of (bytes_of 32 h) ≡ some i
        → is_bin (bin_with (hash_of s) p.set_size R (element_at E e)) i ≡ true → Passing R (next_of h e) j → Passing R h (suc j)
    unfolding are_below passes_on
    one_more R h i e j l d b w =
        let fit : bin_is (bin_with (hash_of s) p.set_size R (element_at E e)) (id_of (bytes_of 32 h)) ≡ true = rw d b in
        (e ∷ w.0, rw (lt-ltb e (length E) l) w.1, rw fit w.2)

    followed : (R h i : ℕ) (es : List Element) → Among es → id_of (bytes_of 32 h) ≡ some i
        → yes_with hash p.x (follow_with hash p R (bytes_of 32 h) i es) ≡ true → Passing R h (length es)
    unfolding Each follow_with are_below passes_on if_some
    followed R h i [] w d y =
        ([], refl, subst (λ (z : List ℕ). bernoulli (take 16 z) (value_of p.x) ≡ true) (at_last s t (bytes_of 32 h) (last_asked h)) y)
    followed R h i (e ∷ es) w d y =
        let at = with_tail (tail e) E w.0 in
        go at (is_bin (bin_with hash p.set_size R e) i) refl (id_of (hash (next_input (bytes_of 32 h) e))) refl
        (λ j d. followed R (next_of h at.0) j es w.1 d) y
      where
        go : (at : Stands e) (b : Bool) → is_bin (bin_with hash p.set_size R e) i ≡ b
            → (o : Option ℕ) → id_of (hash (next_input (bytes_of 32 h) e)) ≡ o
            → ((j : ℕ) → id_of (bytes_of 32 (next_of h at.0)) ≡ some j
            → yes_with hash p.x (follow_with hash p R (bytes_of 32 (next_of h at.0)) j es) ≡ true
            → Passing R (next_of h at.0) (length es))
            → yes_with hash p.x (cond b (if_some o (λ (j : ℕ). follow_with hash p R (hash (next_input (bytes_of 32 h) e)) j es)) none) ≡ true
            → Passing R h (suc (length es))
        go at false x o z rest y = absurd (false≢true y)
        go at true x none z rest y = absurd (false≢true y)
        go at true x (some j) z rest y =
            let q = next_same h e at in
            one_more R h i at.0 (length es) at.1 d (subst (λ (b : Option ℕ). is_bin b i ≡ true) (bin_same R e at) x)
            (rest j (subst (λ (l : List ℕ). id_of l ≡ some j) q z)
            (subst (λ (l : List ℕ). yes_with hash p.x (follow_with hash p R l j es) ≡ true) q y))

    passing : (R S : ℕ) (es : List Element) → Among es → yes_with hash p.x (last_with hash p R S es) ≡ true
        → Passing R (start_of R S) (length es)
    unfolding if_some
    passing R S es w y = go (id_of (hash (start_input R S))) refl y
      where
        first : hash (start_input R S) ≡ bytes_of 32 (start_of R S)
        first = at_round s t (bytes_of 8 R ++ bytes_of 8 S) (start_asked R S)

        go : (o : Option ℕ) → id_of (hash (start_input R S)) ≡ o
            → yes_with hash p.x (if_some o (λ (i : ℕ). follow_with hash p R (hash (start_input R S)) i es)) ≡ true
            → Passing R (start_of R S) (length es)
        go none d y = absurd (false≢true y)
        go (some i) d y =
            followed R (start_of R S) i es w (subst (λ (l : List ℕ). id_of l ≡ some i) first d)
            (subst (λ (l : List ℕ). yes_with hash p.x (follow_with hash p R l i es) ≡ true) first y)

    -- ---- what is accepted is green

    record Judged (R S : ℕ) (es : List Element) : Type 0 where
      long : length es ≡ p.proof_size
      width : S < p.search_width
      retries : R < p.max_retries
      says_yes_lem : yes_with hash p.x (last_with hash p R S es) ≡ true

    judged : (R S : ℕ) (es : List Element) → judged_with hash p R S es ≡ 0 → Judged R S es
    unfolding judged_with first_number
    judged R S es e =
        go (eqb (length es) p.proof_size) refl (counters_out p R S) refl (yes_with hash p.x (last_with hash p R S es)) refl e
      where
        go : (a : Bool) → eqb (length es) p.proof_size ≡ a → (b : Bool) → counters_out p R S ≡ b
            → (c : Bool) → yes_with hash p.x (last_with hash p R S es) ≡ c
            → first_number (line 20 (not a) ∷ line 21 b ∷ line 22 (not c) ∷ []) ≡ 0 → Judged R S es
        go false x b y c z v = absurd (omega arith)
        go true x true y c z v = absurd (omega arith)
        go true x false y false z v = absurd (omega arith)
        go true x false y true z v =
            let w = neither (leb p.search_width S) y in
            record {
              long = eqb-true _ _ x;
              width = leb-false p.search_width S w.0;
              retries = leb-false p.max_retries R w.1;
              says_yes_lem = z;
            }

    accepted : (sent : Sent) → MadeOf E sent → accepts hash p sent ≡ true → (c : Choice) × (green_on (game p E s) t c ≡ true)
    unfolding verdict_with
    accepted sent w a =
        let R = sent.retry in
        let S = sent.search in
        let es = elements sent.lent in
        let first = number_none (checked p) _ (eqb-true _ 0 a) in
        let second = number_none (list_check sent.lent) _ first.1 in
        let j = judged R S es (sym (number_last _) ∙ second.1) in
        let g = passing R S es w j.says_yes_lem in
        let below = subst (λ (z : ℕ). are_below (length E) z g.0 ≡ true) j.long g.1 in (
          record { retry = R; search = S; places = g.0 },
          rw (lt-ltb R p.max_retries j.retries, lt-ltb S p.search_width j.width, below) g.2,
        )

-- ---- over all tables: each comes as often from two parts, so what holds for each first part holds for all

joined_share : (m k a b : ℕ) → 0 < m → (part : ℕ → Bool) (test : List ℕ → Bool)
    → ((s : List ℕ) → how_many_tables m k (λ (t : List ℕ). test (joined part s t)) * a ≤ b * m ^ k) → how_many_tables m k test * a ≤ b * m ^ k
joined_share m k a b M part test each =
    cancelled _ _ (m ^ k) (one-le-pow k m M) (tables_joined m k part (λ t. one_if (test t)))
    (tables_bounded m k a (b * m ^ k) (λ s. how_many_tables m k (λ t. test (joined part s t))) (λ s _. each s))
  where
    cancelled : (y c K : ℕ) → 0 < K → y ≡ K * c → y * a ≤ K * (b * K) → c * a ≤ b * K
    cancelled y c K P e h =
        let z : K * c * a ≤ K * (b * K) = subst (λ (v : ℕ). v * a ≤ K * (b * K)) e h in
        let w : c * a * K ≤ b * K * K = omega arith in
        le_of_mul-le-mul_right w P

-- settings without a set are refused
no_set : (hash : List ℕ → List ℕ) (p : Params) (sent : Sent) → p.set_size ≡ 0 → accepts hash p sent ≡ false
unfolding verdict_with not_one_to
no_set hash p sent z = ap (λ (k : ℕ). eqb k 0) (number_met (checked p) _ 1 (set_size_refused p (rw z)) (λ e. omega arith))

none_green : (m k : ℕ) (test : List ℕ → Bool) → ((t : List ℕ) → test t ≡ false) → how_many_tables m k test ≡ 0
none_green m k test never =
    tables_same m k (λ t. one_if (test t)) (λ t. 0) (λ t. ap one_if (never t)) ∙ (tables_const m k 0 ∙ mul-zero (m ^ k))

pub green_share : GreenShare
green_share p E few fine sender made = elim (eq-zero-or-pos p.set_size) [
  | inl z ↦ none_share _ _
      (none_green how_many_digests (how_many_strings longest) (λ t. accepts (hash_of t) p (sender t)) (λ t. no_set (hash_of t) p (sender t) z))
  | inr N ↦ by_parts N
]
  where
    none_share : {g : ℕ} (a b : ℕ) → g ≡ 0 → g * a ≤ b
    none_share a b e = rw e (omega arith)

    by_parts : 0 < p.set_size
        → how_many_green p sender * (p.set_size ^ p.proof_size * how_many_digests)
        ≤ (chains_term p (length E) + again_term p) * how_many_functions
    by_parts N =
        joined_share how_many_digests (how_many_strings longest) _ _ (pow_pos 256) of_bin (λ t. accepts (hash_of t) p (sender t))
        (λ s. green_tables (game p E s) how_many_digests p.set_size (value_of p.x * 2 ^ 128) (how_many_strings longest)
        (pow_pos 256) N few
        (λ R e. id_share p.set_size N (bin_with (hash_of s) p.set_size R (element_at E e)))
        (yes_share (value_of p.x)) (apart p E fine s)
        (λ t. accepts (hash_of (joined of_bin s t)) p (sender (joined of_bin s t)))
        (λ t. accepted p E fine s t (sender (joined of_bin s t)) (made (joined of_bin s t))))
