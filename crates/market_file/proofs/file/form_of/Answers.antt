use Rattle.std.proofs.Common.{sym}
use Rattle.std.specs.Option.{option_map}
use Rattle.market_file.proofs.Limits.{sizes_limited, contents_right, few_kinds}
use Rattle.market_file.proofs.file.form_of.Goals as goal

pub check_sections-requires : goal.check_sections-requires
check_sections-requires c =
    let z = sizes_limited (option_map (λ x. x.now) c.next.result) c.in_ok-sizes.sizes (sym c.in_ok-sizes.ensures) in
    record {
      blank = c.requires;
      sizes = z;
      few = few_kinds c.in_ok-sizes.sizes c.in_ok-contents.contents z.0 z.1 (contents_right c.in_ok-sizes.sizes (option_map (λ x. x.now) c.next-2.result) c.in_ok-contents.contents (sym c.in_ok-contents.ensures));
    }
