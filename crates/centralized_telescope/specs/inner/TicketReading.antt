-- What the reader of a ticket looks at, from the front. TicketsLaws ties it to `elements_in`, TicketsReadLaws to `is_ticket`.
use Rattle.std.specs.Prelude.{◌≡◌, ℕ, zero, suc, ◌+◌, ◌*◌, ◌/◌, ◌≤◌, Bool, true, false, not, ◌&&◌, List, length, drop, nat_le, nat_lt, slice_index, Option, Some, None}
use Rattle.sampling.specs.core.BigEndian.{big_endian}
use Rattle.centralized_telescope.specs.core.Lists.{some_of}
use Rattle.centralized_telescope.specs.later.Blocks.{bodies_of, block_bytes, body_bytes, max_filling}
use Rattle.centralized_telescope.specs.later.Tickets.{count_in, is_ticket, elements_part, ticket_head_bytes}
use Rattle.centralized_telescope.specs.declared.ticket.HeadRead.{HeadRead}
use Rattle.centralized_telescope.specs.declared.ticket.Found.{Found}
use Rattle.centralized_telescope.specs.declared.ticket.Layout.{Layout}
use Rattle.centralized_telescope.specs.core.Elements.{index_of, max_data_bytes, max_elements}
use Rattle.centralized_telescope.specs.inner.Held.{option_of}

-- ---- one element at the front of bytes: its mark, how long its head is, how many data bytes follow

abbrev pub mark_in : List ℕ → ℕ
mark_in s = slice_index s 0

abbrev pub head_size : List ℕ → ℕ
head_size s = 5 + 8 * mark_in s

abbrev pub size_in : List ℕ → ℕ
size_in s = big_endian 4 (drop (1 + 8 * mark_in s) s)

unfoldable pub laid_out : List ℕ → Bool
laid_out s =
    nat_le 5 (length s)
    && (nat_le (mark_in s) 1 && (nat_le (head_size s) (length s) && (nat_le (size_in s) max_data_bytes && nat_le (head_size s + size_in s) (length s))))

pub record HeadIs (h : HeadRead) (s : List ℕ) : Type 0 where
  pub laid : laid_out s ≡ true
  pub index : option_of h.«index» ≡ index_of (mark_in s) (big_endian 8 (drop 1 s))
  pub len : h.len ≡ head_size s
  pub size : h.size ≡ size_in s

abbrev pub HeadSays : Option HeadRead → List ℕ → Type 0
HeadSays (Some h) s = HeadIs h s
HeadSays None s = laid_out s ≡ false

-- ---- n elements at the front of bytes: whether they are there, how long they are, how many data bytes they have

unfoldable pub all_laid_out : ℕ → List ℕ → Bool
all_laid_out zero s = true
all_laid_out (suc n) s = laid_out s && all_laid_out n (drop (head_size s + size_in s) s)

unfoldable pub layout_size : ℕ → List ℕ → ℕ
layout_size zero s = 0
layout_size (suc n) s = head_size s + size_in s + layout_size n (drop (head_size s + size_in s) s)

unfoldable pub data_size : ℕ → List ℕ → ℕ
data_size zero s = 0
data_size (suc n) s = size_in s + data_size n (drop (head_size s + size_in s) s)

pub record LayoutIs (at used n : ℕ) (b : List ℕ) : Type 0 where
  pub laid : all_laid_out n (elements_part b) ≡ true
  pub ends_at : at ≡ ticket_head_bytes + layout_size n (elements_part b)
  pub uses : used ≡ data_size n (elements_part b)

abbrev pub LayoutSays : Option Layout → ℕ → List ℕ → Type 0
LayoutSays (Some layout) n b = LayoutIs layout.end layout.bytes n b
LayoutSays None n b = all_laid_out n (elements_part b) ≡ false

-- ---- what follows the elements: zeros, and less than a body

unfoldable pub filling_right : List ℕ → Bool
filling_right s = nat_le (length s) max_filling && not (some_of (nat_lt 0) s)

-- ---- all of it: the blocks, which are undamaged, are a ticket

pub record FoundIs (count size : ℕ) (t : List ℕ) : Type 0 where
  pub some_block : body_bytes ≤ body_bytes * (length t / block_bytes)
  pub is : is_ticket t ≡ true
  pub counted : count ≡ count_in (bodies_of t)
  pub few : count ≤ max_elements
  pub laid : all_laid_out count (elements_part (bodies_of t)) ≡ true
  pub uses : size ≡ data_size count (elements_part (bodies_of t))

abbrev pub FoundSays : Option Found → List ℕ → Type 0
FoundSays (Some found) t = FoundIs found.elements found.bytes t
FoundSays None t = is_ticket t ≡ false
