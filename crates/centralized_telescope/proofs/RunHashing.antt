-- A run's bytes, gathered and absorbed part by part.
use Rattle.std.proofs.Common.{◌≡◌, ℕ, ◌+◌, ◌-◌, ◌<◌, ◌≤◌, List, [], ◌++◌, length, take, drop, sym, ap, ◌∙◌, append_assoc, append-nil, arith, length-append, length-take-le, take_all, take_at}
use Rattle.sampling.specs.declared.sha256.Hasher.{Hasher}
use Rattle.sampling.specs.later.Hasher.{new_hasher, absorbed}
use Rattle.sampling.specs.laws.HasherLaws.{absorbed_twice}
use Rattle.centralized_telescope.specs.declared.params.Params.{Params}
use Rattle.centralized_telescope.specs.core.Elements.{Element, element_at, max_data_bytes}
use Rattle.centralized_telescope.specs.later.ElementBytes.{element_bytes, elements_bytes, max_head_bytes}
use Rattle.centralized_telescope.specs.later.Prepare.{run_head, run_bytes}
use Rattle.centralized_telescope.specs.inner.Gathering.{Put, gather_room}
use Rattle.centralized_telescope.specs.laws.ElementBytesLaws.{length_element, marked_one}
use Rattle.centralized_telescope.specs.laws.PrepareLaws.{run_parts}
use Rattle.centralized_telescope.proofs.ElementWriting.{no_bytes, bytes_more}

-- what a put leaves in front of its end
put_front : (y : List ℕ) (from to : ℕ) (out after : List ℕ) → from + length y ≤ length out → Put y from out after to
    → take to after ≡ take from out ++ y
put_front y from to out after l P =
    let front : length (take from out) ≡ from = length-take-le from out (omega arith) in
    let whole : after ≡ (take from out ++ y) ++ drop (from + length y) out =
    P.written ∙ sym (append_assoc (take from out) y (drop (from + length y) out)) in
    rw (whole, P.behind)
    (take_at (take from out ++ y) (drop (from + length y) out) (from + length y) (omega (arith, length-append (take from out) y, front)))

-- an element's bytes fit behind those that are gathered
pub put_room : (e : Element) (used : ℕ) (out : List ℕ) → gather_room ≡ length out → used ≤ gather_room
    → max_head_bytes + length e.bytes ≤ gather_room - used → used + length (element_bytes e) ≤ length out
put_room e used out R u l = omega (arith, R, u, l, length_element e, marked_one e.index)

-- the head and the first elements, up to the place, are absorbed once what is gathered is
pub record Gathering (p : Params) (es : List Element) (place : ℕ) (hasher : Hasher) (gathered : List ℕ) (used : ℕ) : Type 0 where
  pub room : gather_room ≡ length gathered
  pub within : used ≤ gather_room
  pub so_far : absorbed hasher (take used gathered) ≡ absorbed new_hasher (run_head p (length es) ++ elements_bytes (take place es))

-- and there is room for an element
abbrev pub Roomy : Params → List Element → ℕ → Element → Hasher → List ℕ → ℕ → Type 0
Roomy p es place e hasher gathered used =
    Gathering p es place hasher gathered used × (max_head_bytes + length e.bytes ≤ gather_room - used)

module _ (p : Params) (es : List Element) where
  pub none_gathered : (count : ℕ) → length es ≡ count → (h : Hasher) (out : List ℕ) → h ≡ absorbed new_hasher (run_head p count)
      → gather_room ≡ length out → Gathering p es 0 h out 0
  none_gathered count N h out H R = record {
    room = R;
    within = omega arith;
    so_far = rw (H, N, no_bytes) (absorbed_twice new_hasher (run_head p count) []);
  }

  module _ (place : ℕ) (h : Hasher) (out : List ℕ) (used : ℕ) (G : Gathering p es place h out used) where
    -- what is gathered is absorbed, and the room is free
    pub room_made : (e : Element) → length e.bytes ≤ max_data_bytes → (h₁ : Hasher) → h₁ ≡ absorbed h (take used out) → Roomy p es place e h₁ out 0
    room_made e S h₁ H = (
      record {
        room = G.room;
        within = omega arith;
        so_far = rw H (absorbed_twice h (take used out) [] ∙ rw (append-nil (take used out)) G.so_far);
      },
      omega (arith, S),
    )

    -- all are gathered
    pub all_gathered : length es ≤ place → absorbed h (take used out) ≡ absorbed new_hasher (run_bytes p es)
    all_gathered l =
        G.so_far ∙ ap (λ (fs : List Element). absorbed new_hasher (run_head p (length es) ++ elements_bytes fs)) (take_all place es l) ∙ rw (run_parts p es)

-- an element more is gathered
pub one_gathered : (p : Params) (es : List Element) (place : ℕ) (e : Element) (h : Hasher) (out : List ℕ) (used : ℕ) → Roomy p es place e h out used
    → place < length es → e ≡ element_at es place
    → (after : List ℕ) (to : ℕ) → length after ≡ length out → Put (element_bytes e) used out after to
    → Gathering p es (place + 1) h after to
one_gathered p es place e h out used R inside E after to L P =
    let G = R.0 in
    let fits = put_room e used out G.room G.within R.1 in
    let w : List ℕ = run_head p (length es) in record {
      room = G.room ∙ sym L;
      within = omega (arith, P.behind, fits, G.room);
      so_far =
          ap (absorbed h) (put_front (element_bytes e) used to out after fits P)
          ∙ sym (absorbed_twice h (take used out) (element_bytes e))
          ∙ ap (λ (k : Hasher). absorbed k (element_bytes e)) G.so_far
          ∙ absorbed_twice new_hasher (w ++ elements_bytes (take place es)) (element_bytes e)
          ∙ rw (bytes_more es place inside, ← E, append_assoc w (elements_bytes (take place es)) (element_bytes e));
    }
