-- The three digests of the example on a raised bound, worked out by the checker: the first try's second chain passes, and the second try's
-- first.
use Rattle.std.proofs.Common.{◌≡◌, ◌^◌, true, false, refl}
use Rattle.sampling.specs.declared.sample.U128.{U128}
use Rattle.sampling.specs.core.BigEndian.{bytes_of, big_endian}
use Rattle.sampling.specs.core.Fips180.{next_w, W, one_round, rounds, plus, compressed, words, hash_value}
use Rattle.sampling.specs.core.Fips180.{zero_bytes, padding, padded, word_bytes}
use Rattle.sampling.specs.core.Fips180.{digest_of, sha256}
use Rattle.sampling.specs.core.Sample.{bernoulli}
use Rattle.centralized_telescope.specs.core.Rounds.{round_label, proof_label, start_hash, says_yes}

abbrev half : U128
half = record { hi = 2 ^ 63; lo = 0 }

pub first_no : says_yes half (start_hash 1 0) ≡ false
unfolding next_w W one_round rounds plus compressed words hash_value zero_bytes bytes_of padding padded word_bytes digest_of sha256 big_endian
    bernoulli round_label proof_label start_hash says_yes
first_no = refl

pub second_yes : says_yes half (start_hash 1 1) ≡ true
unfolding next_w W one_round rounds plus compressed words hash_value zero_bytes bytes_of padding padded word_bytes digest_of sha256 big_endian
    bernoulli round_label proof_label start_hash says_yes
second_yes = refl

pub next_yes : says_yes half (start_hash 2 0) ≡ true
unfolding next_w W one_round rounds plus compressed words hash_value zero_bytes bytes_of padding padded word_bytes digest_of sha256 big_endian
    bernoulli round_label proof_label start_hash says_yes
next_yes = refl
