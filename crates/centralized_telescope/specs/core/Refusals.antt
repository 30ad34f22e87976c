-- 01, Lent and given back, the table: the number of each refusal; from 40 up 02's. Every call's refusal has its number from here. 42 is
-- also what `write_proof` gives (docs/DECISIONS.md, Lists).
use Rattle.std.specs.Prelude.{ℕ, Result, Ok, Err}
use Rattle.centralized_telescope.specs.declared.errors.Refusal.{Refusal}
use Rattle.centralized_telescope.specs.declared.errors.Refusal.TheVariants as refusal

abbrev pub refusal_number : Refusal → ℕ
refusal_number refusal.SetSize = 1  -- settings: set_size
refusal_number refusal.Limit = 2  -- settings: another whole number
refusal_number refusal.Malformed = 4  -- list: its form
refusal_number refusal.TooLarge = 5  -- list: its size
refusal_number refusal.WorkspaceShort = 6  -- prover: what is lent to work in
refusal_number refusal.NotEnoughElements = 10  -- prover: fewer elements than set_size
refusal_number refusal.ProofSize = 30  -- small case: u
refusal_number refusal.Completeness = 31  -- small case: c
refusal_number refusal.DamagedTicket = 40  -- 02, N1, the reader: size or check
refusal_number refusal.NoTicket = 41  -- 02, N1 and N7, the reader: layout, number of blocks or limits
refusal_number refusal.BufferShort = 42  -- a buffer to write into
refusal_number refusal.Figures = 43  -- 02, N6: a security figure
refusal_number refusal.NoSize = 44  -- 02, N6: no size up to 1,024
refusal_number refusal.PoolTooLarge = 45  -- 02, N8: the pool's size
refusal_number refusal.RunChanged = 46  -- 02, N9: another digest
refusal_number refusal.OtherRetry = 47  -- 02, N11: another retry counter than the table's
refusal_number refusal.OtherTable = 48  -- 02, N11: another bin table
refusal_number refusal.CountsShort = 49  -- 02, N12: too few counts lent
refusal_number refusal.TreeTooLarge = 50  -- 02, N12: more chains than dfs_bound

-- the number of an answer that is a refusal or something else, which counts as 0
abbrev pub answer_number : {A : Type 0} → Result A Refusal → ℕ
answer_number (Ok a) = 0
answer_number (Err k) = refusal_number k
