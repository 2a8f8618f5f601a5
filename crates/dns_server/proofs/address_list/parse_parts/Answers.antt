use Rattle.dns_server.proofs.address_list.parse_parts.Goals as goal

pub returns : goal.returns
returns c = (c.parse_ip.result, (c.parse_ip.ensures, c.prefix_from.ensures))
