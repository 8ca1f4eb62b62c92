-- The laws that prove specs/Claims.antt.
use Rattle.ranks.specs.Claims.{SmallRankAsCapitals, OthersKeepTheirValue, UnmaskedAreTheirRanks, SameLetterSameRank, SameLettersSameRanks, RanksAreCapitals, OrdersAgree}
use Rattle.ranks.proofs.Masking.{rank_other, small_as_capital, same_rank, rank_tells, unmasked_ranks, same_ranks, ranks_tell, ranks_capitals}
use Rattle.ranks.proofs.BothOrders.{orders_agree_lem}

pub small_rank_as_capitals : SmallRankAsCapitals
small_rank_as_capitals = small_as_capital

pub others_keep_their_value : OthersKeepTheirValue
others_keep_their_value = rank_other

pub unmasked_are_their_ranks : UnmaskedAreTheirRanks
unmasked_are_their_ranks = unmasked_ranks

pub same_letter_same_rank : SameLetterSameRank
same_letter_same_rank a b = (same_rank a b, rank_tells a b)

pub same_letters_same_ranks : SameLettersSameRanks
same_letters_same_ranks letters others = (same_ranks letters others, ranks_tell letters others)

pub ranks_are_capitals : RanksAreCapitals
ranks_are_capitals = ranks_capitals

pub orders_agree : OrdersAgree
orders_agree = orders_agree_lem
