-- The run that finds a proof, and the verdict on it, worked out by the checker with their digests.
use Rattle.std.proofs.Common.{refl}
use Rattle.sampling.specs.core.BigEndian.{bytes_of, big_endian}
use Rattle.sampling.specs.core.FirstNumber.{first_number}
use Rattle.sampling.specs.core.Fips180.{next_w, W, one_round, rounds, plus, compressed, words, hash_value}
use Rattle.sampling.specs.core.Fips180.{zero_bytes, padding, padded, word_bytes}
use Rattle.sampling.specs.core.Fips180.{digest_of, sha256}
use Rattle.sampling.specs.core.Sample.{is_power, mod_not_power, uniform, bernoulli}
use Rattle.centralized_telescope.specs.core.Lists.{some_of, first_of, up_to_first}
use Rattle.centralized_telescope.specs.core.Params.{not_one_to, limit_broken, checked}
use Rattle.centralized_telescope.specs.core.Elements.{tail, elements_from, element_at, end_wrong, malformed}
use Rattle.centralized_telescope.specs.core.Elements.{data_long, too_large, list_check}
use Rattle.centralized_telescope.specs.core.Rounds.{round_label, bin_label, proof_label, start_hash, next_hash, drawn_below, bin_of, says_yes}
use Rattle.centralized_telescope.specs.core.Bins.{places_from, by_bin, starts, table_of, bin_table}
use Rattle.centralized_telescope.specs.core.Search.{bin_list, places_in, grown, along, chains, chains_at, chains_from, passing, try_count}
use Rattle.centralized_telescope.specs.core.Search.{try_finds, unless_found, tries_from, searched}
use Rattle.centralized_telescope.specs.core.Prover.{table_after, answered, by_search, prover_refusal, proved}
use Rattle.centralized_telescope.specs.core.Verifier.{if_some, follow, last_hash, judged, verdict}
use Rattle.centralized_telescope.specs.later.FoundExample.{FoundExample}

pub found_example : FoundExample
unfolding next_w W one_round rounds plus compressed words hash_value zero_bytes bytes_of padding padded word_bytes digest_of sha256 big_endian
    first_number is_power mod_not_power uniform bernoulli some_of first_of up_to_first not_one_to limit_broken checked tail elements_from element_at
    end_wrong malformed data_long too_large list_check round_label bin_label proof_label start_hash next_hash drawn_below bin_of says_yes places_from
    by_bin starts table_of bin_table bin_list places_in grown along chains chains_at chains_from passing try_count try_finds unless_found tries_from
    searched table_after answered by_search prover_refusal proved if_some follow last_hash judged verdict
found_example = (refl, refl)
