use Rattle.std.proofs.Common.{◌≡◌, length, rules}
use Rattle.cob_flat.proofs.Emission.{extends_one, stays_put}
use Rattle.cob_flat.proofs.emit.put.Goals as goal

pub returns : goal.returns
returns c =
    let at : c.len-place.result ≡ length c.args.code.now.items = search rules in
    record {
      extends = extends_one c.args.code.now.items c.push.new.self.items c.args.instruction c.in_ok-push.ensures.items;
      put = stays_put c.args.code.now.items c.push.new.self.items c.args.instruction c.len-place.result c.in_ok-push.ensures.items at;
    }
