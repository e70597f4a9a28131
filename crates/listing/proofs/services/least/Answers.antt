use Rattle.listing.proofs.ListingLaws.{take-blank, snps-print, fragments-print, calls-print}
use Rattle.listing.specs.Listing.{blank}
use Prim.Native.Nat.{◌*◌}
use mathlib.Core.Path.{refl}
use native.Mathlib.Omega.{arith}
use Rattle.listing.proofs.services.least.Goals as goal

pub returns-in-Snps : goal.returns-in-Snps
unfolding blank
returns-in-Snps c =
    snps-print _ _ _ c.requires refl c.in-Snps.is c.least_snp_removal.ensures.outcome c.least_snp_removal.ensures.answer

pub returns-in-Fragments : goal.returns-in-Fragments
unfolding blank
returns-in-Fragments c =
    fragments-print _ _ _ c.requires refl c.in-Fragments.is c.least_fragment_removal.ensures.outcome c.least_fragment_removal.ensures.answer

pub returns-in-Calls : goal.returns-in-Calls
unfolding blank
returns-in-Calls c =
    let m = c.args.sizes.m in
    calls-print m _ _ c.requires refl c.in-Calls.is (take-blank (32 * m) 4096 (omega arith)) c.least_corrections.ensures.outcome c.least_corrections.ensures.answer
